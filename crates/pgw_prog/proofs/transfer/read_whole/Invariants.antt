use Rattle.std.proofs.Common.{◌≡◌, ◌-◌, length}
use Rattle.pgw_prog.proofs.TransferLaws.{Drawn}
use Rattle.pgw_prog.proofs.transfer.read_whole.Given as goal

abbrev pub invariant-loop-chunk : goal.invariant-loop-chunk
invariant-loop-chunk g l = record {
  same : g.I.Source.faults l.input ≡ g.I.Source.faults l.fn.input;
  drawn : Drawn (g.I.Source.tape l.fn.input) (g.I.Source.tape l.input) (g.I.Source.left l.fn.input)
      (g.I.Source.left l.input) l.text.items;
}

abbrev pub decreases-loop-chunk : goal.decreases-loop-chunk
decreases-loop-chunk g l = 16777217 - length l.text.items
