use Rattle.std.proofs.Common.{◌≡◌, ◌++◌, drop}
use Rattle.pgw_prog_output.specs.Layout.{columns_for}
use Rattle.pgw_prog_output.proofs.layout.without_width.Given as goal

abbrev pub invariant-loop-at : goal.invariant-loop-at
invariant-loop-at l = l.laid.items ++ columns_for (drop l.at l.columns) ≡ columns_for l.columns
