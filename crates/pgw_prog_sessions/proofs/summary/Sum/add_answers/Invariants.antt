use Rattle.std.proofs.Common.{take}
use Rattle.std.specs.List.{flat_map}
use Rattle.pgw_prog_sessions.specs.Summary.{AddsRowsToSum, answer_rows}
use Rattle.pgw_prog_sessions.proofs.summary.Sum.add_answers.Given as goal

abbrev pub invariant-loop-answer : goal.invariant-loop-answer
invariant-loop-answer l = AddsRowsToSum (flat_map answer_rows (take l.answer-index l.answers)) l.fn.self l.self
