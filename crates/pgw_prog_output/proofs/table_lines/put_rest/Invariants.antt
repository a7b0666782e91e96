use Rattle.std.proofs.Common.{◌≡◌, ◌++◌, drop}
use Rattle.pgw_prog_output.specs.TableLines.{table_rest}
use Rattle.pgw_prog_output.proofs.table_lines.put_rest.Given as goal

abbrev pub invariant-loop-at : goal.invariant-loop-at
invariant-loop-at l = l.out.items ++ table_rest (drop l.at l.columns) (drop l.at l.row)
    ≡ l.fn.out.items ++ table_rest l.columns l.row
