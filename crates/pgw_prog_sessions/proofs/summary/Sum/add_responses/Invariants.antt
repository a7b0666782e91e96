use Rattle.std.proofs.Common.{take}
use Rattle.std.specs.List.{flat_map}
use Rattle.pgw_prog_sessions.specs.Summary.{AddsRowsToSum, response_rows}
use Rattle.pgw_prog_sessions.proofs.summary.Sum.add_responses.Given as goal

abbrev pub invariant-loop-response : goal.invariant-loop-response
invariant-loop-response l =
    AddsRowsToSum (flat_map response_rows (take l.response-index l.responses)) l.fn.self l.self
