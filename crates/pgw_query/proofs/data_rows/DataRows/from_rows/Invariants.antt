use Rattle.std.proofs.Common.{◌≡◌}
use Rattle.pgw_query.proofs.data_rows.DataRows.from_rows.Given as goal

abbrev pub invariant-loop-row : goal.invariant-loop-row
invariant-loop-row l = l.all ≡ l.yielded
