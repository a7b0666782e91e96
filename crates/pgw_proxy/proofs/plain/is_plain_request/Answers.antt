use Rattle.std.proofs.Common.{sym, ◌∙◌, length}
use Rattle.std.proofs.lemmas.Bool.{eqb-true, leb-true, OnTrue_at, OnTrue_from}
use Rattle.pgw_proxy.proofs.PlainLaws.{query_plain, sent_plain, sync_is}
use Rattle.pgw_proxy.proofs.plain.is_plain_request.Goals as goal

pub returns-then-body-le1073741818 : goal.returns-then-body-le1073741818
returns-then-body-le1073741818 c =
    rw c.in-81.is (OnTrue_from _ _ (λ is. query_plain c.args.body.now c.if-body-le1073741818.true
    (OnTrue_at is c.is_text.ensures)))

pub returns-in-100 : goal.returns-in-100
returns-in-100 c = rw c.in-100.is (OnTrue_from _ _ (λ is. sent_plain c.args.body.now (leb-true _ _ is)))

pub returns-in-83 : goal.returns-in-83
returns-in-83 c =
    rw c.in-83.is (OnTrue_from _ _ (λ is. sync_is c.args.body.now
    (eqb-true (length c.args.body.now) 0 (sym c.is_empty.ensures ∙ is))))
