use Rattle.std.proofs.Common.{◌≡◌, ◌≤◌, ◌-◌, ◌++◌, List, ℕ, length}
use Rattle.pgw_proxy.specs.Plain.{Tapes}
use Rattle.pgw_proxy.proofs.passing.record_plain.Given as goal

abbrev pub invariant-loop-end : goal.invariant-loop-end
invariant-loop-end l = record {
  within : l.taken ≤ length l.bytes;
  tapes : Tapes l.side l.ready l.bytes l.taken l.fn.tape.items l.tape.items;
  part : (part : List ℕ) × (l.tape.items ≡ l.fn.tape.items ++ part);
}

abbrev pub decreases-loop-end : goal.decreases-loop-end
decreases-loop-end l = length l.bytes - l.taken
