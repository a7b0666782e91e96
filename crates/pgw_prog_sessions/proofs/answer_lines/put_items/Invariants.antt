use Rattle.std.proofs.Common.{◌≡◌, ◌++◌, take}
use Rattle.std.specs.List.{flat_map}
use Rattle.pgw_prog_sessions.specs.AnswerLines.{item_line}
use Rattle.pgw_prog_sessions.proofs.answer_lines.put_items.Given as goal

abbrev pub invariant-loop-code : goal.invariant-loop-code
invariant-loop-code l = l.out.items ≡ l.fn.out.items ++ flat_map item_line (take l.code-index l.items)
