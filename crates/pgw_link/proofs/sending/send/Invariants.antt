use Rattle.std.proofs.Common.{◌≡◌, ◌≤◌, ◌+◌, ◌-◌, ◌++◌, length, take}
use Rattle.std.specs.Io.KnownBytes.{Keeps}
use Rattle.pgw_link.specs.Sending.{ReadsNothing}
use Rattle.pgw_link.proofs.sending.send.Given as goal

abbrev pub invariant-loop-at : goal.invariant-loop-at
invariant-loop-at g l = record {
  at_in : l.at ≤ length l.fn.bytes;
  kept : g.L.Link.plan l.link ≡ g.L.Link.plan l.fn.link;
  later : g.L.Link.faults l.fn.link ≤ g.L.Link.faults l.link;
  clean : g.L.Link.faults l.link ≡ g.L.Link.faults l.fn.link;
  reads_nothing : ReadsNothing (g.L.Link.tape l.fn.link) (g.L.Link.tape l.link);
  wrote : (g.L.Link.tape l.link).wrote ≡ (g.L.Link.tape l.fn.link).wrote ++ take l.at l.fn.bytes;
  flushed : (g.L.Link.tape l.link).flushed ≡ (g.L.Link.tape l.fn.link).flushed;
  writes : (g.L.Link.tape l.link).writes ≤ (g.L.Link.tape l.fn.link).writes + l.at;
  left : g.L.Link.foretells → Keeps (g.L.Link.left l.fn.link) (g.L.Link.left l.link);
}

abbrev pub decreases-loop-at : goal.decreases-loop-at
decreases-loop-at g l = length l.fn.bytes - l.at
