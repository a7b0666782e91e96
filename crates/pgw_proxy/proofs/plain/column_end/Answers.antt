use Rattle.std.proofs.Common.{arith}
use Rattle.pgw_proxy.proofs.PlainLaws.{column_to}
use Rattle.pgw_proxy.proofs.plain.column_end.Goals as goal

pub returns : goal.returns
returns c =
    column_to c.args.bytes.now c.in-Some.zero c.in-Some.ensures.0.high c.in-Some.ensures.1
    c.in-Some.ensures.0.before (omega (arith, c.in-Some.ensures.0.high))
