use Rattle.std.proofs.Common.{length, ◌-◌, ◌++◌, ◌≡◌, ◌≤◌, ℕ, List, drop, Ok}
use Rattle.pgw_frontend.specs.Frontend.{encodings, both}
use Rattle.pgw_dialogue.proofs.wire.put_all.Given as goal

abbrev pub invariant-loop-at : goal.invariant-loop-at
invariant-loop-at l = record {
  at_in : l.at ≤ length l.messages;
  put : (done : List ℕ) × (l.out.items ≡ l.fn.out.items ++ done)
      × (encodings l.messages ≡ both (Ok done) (encodings (drop l.at l.messages)));
}

abbrev pub decreases-loop-at : goal.decreases-loop-at
decreases-loop-at l = length l.messages - l.at
