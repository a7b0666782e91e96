use Rattle.std.proofs.Common.{◌≡◌, ◌++◌, drop, take}
use Rattle.pgw_prog_output.specs.TableLines.{widened}
use Rattle.pgw_prog_output.proofs.table_lines.widen.Given as goal

abbrev pub invariant-loop-at : goal.invariant-loop-at
invariant-loop-at l = take l.at l.columns ++ widened (drop l.at l.columns) (drop l.at l.row)
    ≡ widened l.fn.columns l.row
