use Rattle.std.proofs.Common.{◌≡◌, ℕ, List, drop}
use Rattle.pgw_prog_output.specs.declared.asking.AnswerEnd.{AnswerEnd}
use Rattle.pgw_prog_output.specs.Asking.{AskedAll}
use Rattle.pgw_prog_output.specs.Lines.{ServerLine}
use Rattle.pgw_prog_output.proofs.asking.ask_all.Given as goal

abbrev pub invariant-loop-query : goal.invariant-loop-query
invariant-loop-query g l = record {
  asked : (new : ServerLine) (after : List ℕ) (how : AnswerEnd)
      → AskedAll l.format (drop l.query-index l.queries) (g.M.Messages.line l.source) new (g.O.Sink.tape
      l.output).wrote after how
      → AskedAll l.format l.queries (g.M.Messages.line l.fn.source) new (g.O.Sink.tape l.fn.output).wrote after
      how;
  same : g.O.Sink.faults l.output ≡ g.O.Sink.faults l.fn.output;
}
