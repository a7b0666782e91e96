use Rattle.std.proofs.lemmas.Bool.{leb-true, OnTrue_at, OnTrue_from}
use Rattle.pgw_proxy.proofs.PlainLaws.{row_plain, data_plain, complete_plain, columns_plain}
use Rattle.pgw_proxy.proofs.plain.is_plain_answer.Goals as goal

pub returns-in-68 : goal.returns-in-68
returns-in-68 c =
    rw c.in-68.is (OnTrue_from _ _ (λ is. row_plain c.args.body.now (leb-true _ _ is) c.requires c.args.ready))

pub returns-in-100 : goal.returns-in-100
returns-in-100 c =
    rw c.in-100.is (OnTrue_from _ _ (λ is. data_plain c.args.body.now (leb-true _ _ is) c.args.ready))

pub returns-then-body-le29996 : goal.returns-then-body-le29996
returns-then-body-le29996 c =
    rw c.in-67.is (OnTrue_from _ _ (λ is. complete_plain c.args.body.now c.if-body-le29996.true
    (OnTrue_at is c.is_text.ensures) c.args.ready))

pub returns-in-84 : goal.returns-in-84
returns-in-84 c =
    rw c.in-84.is (OnTrue_from _ _ (λ is. columns_plain c.args.body.now c.requires
    (OnTrue_at is c.are_columns.ensures) c.args.ready))

pub returns-then-ready : goal.returns-then-ready
returns-then-ready c = rw c.in-90.is (rw c.if-ready.true c.is_ready.ensures)
