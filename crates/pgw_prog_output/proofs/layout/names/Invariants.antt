use Rattle.std.proofs.Common.{◌≡◌, map, take}
use Rattle.pgw_prog_output.specs.Layout.{column_name}
use Rattle.pgw_prog_output.proofs.layout.names.Given as goal

abbrev pub invariant-loop-column : goal.invariant-loop-column
invariant-loop-column l = l.row ≡ map column_name (take l.column-index l.columns)
