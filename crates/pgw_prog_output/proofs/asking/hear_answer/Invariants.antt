use Rattle.std.proofs.Common.{◌≡◌}
use Rattle.pgw_prog_output.specs.declared.asking.Halt.TheVariants as halt
use Rattle.pgw_prog_output.specs.Asking.{HearsAnswers, hearing_weight}
use Rattle.pgw_prog_output.specs.Pages.{sheet}
use Rattle.pgw_prog_output.proofs.asking.hear_answer.Given as goal

abbrev pub invariant-messages : goal.invariant-messages
invariant-messages g l = record {
  heard : HearsAnswers (g.M.Messages.line l.fn.source) (g.M.Messages.line l.source)
      (sheet (g.O.Sink.tape l.fn.output).wrote l.fn.page) (sheet (g.O.Sink.tape l.output).wrote l.page)
      halt.GoesOn;
  same : g.O.Sink.faults l.output ≡ g.O.Sink.faults l.fn.output;
}

abbrev pub decreases-messages : goal.decreases-messages
decreases-messages g l = hearing_weight (g.M.Messages.line l.source)
