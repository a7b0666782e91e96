use Rattle.std.proofs.Common.{◌≡◌, ◌++◌, take}
use Rattle.pgw_prog_output.specs.CsvLines.{csv_rest}
use Rattle.pgw_prog_output.proofs.csv_lines.put_rest.Given as goal

abbrev pub invariant-loop-field : goal.invariant-loop-field
invariant-loop-field l = l.out.items ≡ l.fn.out.items ++ csv_rest (take l.field-index l.fields)
