use Rattle.std.proofs.Common.{◌≡◌, ◌≤◌, ◌-◌, [], length}
use Rattle.pgw_link.specs.Foresight.{TapeEnds, Foreseen}
use Rattle.pgw_dialogue.specs.Input.{input_of}
use Rattle.pgw_client.specs.SessionSteps.{Reading}
use Rattle.pgw_client.proofs.session.converse.Given as goal

abbrev pub invariant-reads : goal.invariant-reads
invariant-reads g l = record {
  read_in : l.read ≤ l.fn.limit;
  empty : l.out.items ≡ [];
  kept : g.L.Link.plan l.link ≡ g.L.Link.plan l.fn.link;
  later : g.L.Link.faults l.fn.link ≤ g.L.Link.faults l.link;
  clean : g.L.Link.faults l.link ≡ g.L.Link.faults l.fn.link;
  foreseen : g.L.Link.foretells
      → Foreseen (g.L.Link.left l.fn.link) (g.L.Link.left l.link) (g.L.Link.tape l.fn.link)
      (g.L.Link.tape l.link);
  not_ended : g.L.Link.foretells
      → TapeEnds (g.L.Link.left l.link) (g.L.Link.tape l.fn.link) (g.L.Link.tape l.link);
  reading : (g.L.Link.tape l.fn.link).flushed ≡ length (g.L.Link.tape l.fn.link).wrote →
      Reading (input_of l.fn.input) l.fn.notes l.notes (g.L.Link.tape l.fn.link) (g.L.Link.tape l.link) l.buffer
      l.read;
}

abbrev pub decreases-reads : goal.decreases-reads
decreases-reads g l = l.fn.limit - l.read
