use Rattle.std.proofs.Common.{◌≡◌, length, sym, ◌∙◌, arith}
use Rattle.std.proofs.lemmas.Bool.{eqb-true, OnTrue_from}
use Rattle.pgw_query.proofs.RunLaws.{rest_of}
use Rattle.pgw_proxy.proofs.PlainLaws.{columns_none, columns_on, columns_are, count_is}
use Rattle.pgw_proxy.proofs.plain.are_columns.Goals as goal

pub loop-init : goal.loop-init
loop-init c = columns_none c.args.body.now _ (rest_of c.args.body.now 2)

pub loop-preserved : goal.loop-preserved
loop-preserved c =
    columns_on c.args.body.now c.loop.rest.now _ c.loop.counter c.in-Some.end c.loop.invariant c.in-Some.ensures
    (rest_of c.loop.rest.now c.in-Some.end)

pub returns : goal.returns
returns c = OnTrue_from c.is_empty.result _ (λ is.
    let n : c.loop.counter ≡ c.from_be_bytes-count.result = omega arith in
    columns_are c.args.body.now c.loop.rest.now c.loop.counter (omega arith) c.loop.invariant
    (eqb-true (length c.loop.rest.now) 0 (sym c.is_empty.ensures ∙ is))
    (count_is c.args.body.now c.loop.counter (omega arith) (n ∙ c.from_be_bytes-count.ensures) (omega arith)))
