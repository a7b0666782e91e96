use Rattle.pgw_proxy.proofs.PlainLaws.{Columns}
use Rattle.pgw_proxy.proofs.plain.are_columns.Given as goal

abbrev pub invariant-loop : goal.invariant-loop
invariant-loop l = Columns l.body l.rest l.counter
