use Rattle.std.proofs.lemmas.Bool.{eqb-true, OnTrue_from}
use Rattle.pgw_proxy.proofs.PlainLaws.{text_is}
use Rattle.pgw_proxy.proofs.plain.is_text.Goals as goal

pub returns-in-Some : goal.returns-in-Some
returns-in-Some c =
    OnTrue_from _ _ (λ is. text_is c.args.bytes.now c.in-Some.zero c.in-Some.ensures.0.high c.in-Some.ensures.1
    c.in-Some.ensures.0.before (eqb-true _ _ is))
