use Rattle.std.proofs.Common.{◌≡◌, ◌++◌, take}
use Rattle.std.specs.List.{flat_map}
use Rattle.pgw_prog_output.specs.TableLines.{table_line}
use Rattle.pgw_prog_output.proofs.printer.put_table_lines.Given as goal

abbrev pub invariant-loop-row : goal.invariant-loop-row
invariant-loop-row l = l.out.items ≡ l.fn.out.items ++ flat_map (table_line l.columns) (take l.row-index l.rows)
