use Rattle.std.proofs.Common.{◌≡◌, ◌≤◌, ◌-◌, ◌++◌, length, take}
use Rattle.pgw_prog_output.proofs.written.write_whole.Given as goal

abbrev pub invariant-loop-at : goal.invariant-loop-at
invariant-loop-at g l = record {
  at_in : l.at ≤ length l.fn.text;
  same : g.O.Sink.faults l.output ≡ g.O.Sink.faults l.fn.output;
  wrote : (g.O.Sink.tape l.output).wrote ≡ (g.O.Sink.tape l.fn.output).wrote ++ take l.at l.fn.text;
}

abbrev pub decreases-loop-at : goal.decreases-loop-at
decreases-loop-at g l = length l.fn.text - l.at
