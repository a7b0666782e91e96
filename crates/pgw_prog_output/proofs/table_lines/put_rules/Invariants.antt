use Rattle.std.proofs.Common.{◌≡◌, ◌++◌, take}
use Rattle.std.specs.List.{flat_map}
use Rattle.pgw_prog_output.specs.TableLines.{rule_rest}
use Rattle.pgw_prog_output.proofs.table_lines.put_rules.Given as goal

abbrev pub invariant-loop-column : goal.invariant-loop-column
invariant-loop-column l = l.out.items ≡ l.fn.out.items ++ flat_map rule_rest (take l.column-index l.columns)
