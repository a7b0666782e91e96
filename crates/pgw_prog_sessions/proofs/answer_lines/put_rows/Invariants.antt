use Rattle.std.proofs.Common.{◌≡◌, ◌++◌}
use Rattle.std.specs.List.{flat_map}
use Rattle.pgw_prog_sessions.specs.AnswerLines.{row_line}
use Rattle.pgw_prog_sessions.proofs.answer_lines.put_rows.Given as goal

abbrev pub invariant-loop-row : goal.invariant-loop-row
invariant-loop-row l = record {
  can : (goal.iterator-loop-row).can_next l.row-iterator;
  ends : (goal.iterator-loop-row).is_finite l.row-iterator;
  put : l.out.items ++ flat_map row_line l.row-iterator ≡ l.fn.out.items ++ flat_map row_line l.rows;
}
