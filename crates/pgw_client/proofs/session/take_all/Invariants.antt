use Rattle.std.proofs.Common.{◌≡◌, ◌≤◌, [], length}
use Rattle.std.specs.Io.KnownBytes.{Keeps}
use Rattle.pgw_dialogue.specs.Input.{input_of}
use Rattle.pgw_client.specs.SessionSteps.{ClientGoesOn}
use Rattle.pgw_link.specs.Sending.{ReadsNothing}
use Rattle.pgw_client.proofs.session.take_all.Given as goal

abbrev pub invariant-messages : goal.invariant-messages
invariant-messages g l = record {
  kept : g.L.Link.plan l.link ≡ g.L.Link.plan l.fn.link;
  later : g.L.Link.faults l.fn.link ≤ g.L.Link.faults l.link;
  clean : g.L.Link.faults l.link ≡ g.L.Link.faults l.fn.link;
  empty : l.out.items ≡ [];
  left : g.L.Link.foretells → Keeps (g.L.Link.left l.fn.link) (g.L.Link.left l.link);
  quiet : ReadsNothing (g.L.Link.tape l.fn.link) (g.L.Link.tape l.link);
  going : (g.L.Link.tape l.fn.link).flushed ≡ length (g.L.Link.tape l.fn.link).wrote →
      ClientGoesOn (input_of l.fn.input) l.fn.notes l.notes (g.L.Link.tape l.fn.link) (g.L.Link.tape l.link)
      l.fn.buffer l.buffer;
}

abbrev pub decreases-messages : goal.decreases-messages
decreases-messages g l = length l.buffer
