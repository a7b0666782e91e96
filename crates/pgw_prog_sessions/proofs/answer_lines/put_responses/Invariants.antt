use Rattle.std.proofs.Common.{◌≡◌, ◌++◌, take}
use Rattle.std.specs.List.{flat_map}
use Rattle.pgw_prog_sessions.specs.AnswerLines.{response_lines}
use Rattle.pgw_prog_sessions.proofs.answer_lines.put_responses.Given as goal

abbrev pub invariant-loop-response : goal.invariant-loop-response
invariant-loop-response l =
    l.out.items ≡ l.fn.out.items ++ flat_map response_lines (take l.response-index l.responses)
