use Rattle.std.proofs.Common.{◌≡◌, fold, take}
use Rattle.pgw_prog_output.specs.TableLines.{widened}
use Rattle.pgw_prog_output.proofs.layout.widen_by.Given as goal

abbrev pub invariant-loop-row : goal.invariant-loop-row
invariant-loop-row l = l.columns ≡ fold widened l.fn.columns (take l.row-index l.rows)
