use Rattle.std.proofs.Common.{◌≤◌, ◌-◌, ◌++◌, length, take}
use Rattle.pgw_dialogue.specs.Input.{input_of}
use Rattle.pgw_dialogue.specs.Steps.{InboxGoesOn}
use Rattle.pgw_dialogue.proofs.steps.feed.Given as goal

abbrev pub invariant-parts : goal.invariant-parts
invariant-parts l = record {
  at_in : l.at ≤ length l.bytes;
  fed : InboxGoesOn (input_of l.fn.input) l.fn.notes l.notes (l.fn.inbox ++ take l.at l.bytes) l.inbox
      l.fn.out.items l.out.items;
}

abbrev pub decreases-parts : goal.decreases-parts
decreases-parts l = length l.bytes - l.at
