use Rattle.std.proofs.Common.{◌≡◌, ◌++◌, ◌+◌, drop}
use Rattle.pgw_prog_sessions.specs.AnswerLines.{numbered}
use Rattle.pgw_prog_sessions.proofs.answer_lines.put_answers.Given as goal

abbrev pub invariant-loop-index : goal.invariant-loop-index
invariant-loop-index l =
    l.out.items ++ numbered (l.index + 1) (drop l.index l.answers) ≡ l.fn.out.items ++ numbered 1 l.answers
