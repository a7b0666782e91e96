use Rattle.std.proofs.Common.{◌≤◌, ◌-◌, length}
use Rattle.pgw_dialogue.specs.Inbox.{InboxRow}
use Rattle.pgw_dialogue.proofs.inbox.whole_len.Given as goal

abbrev pub invariant-loop-len : goal.invariant-loop-len
invariant-loop-len l = (l.end ≤ length l.bytes) × InboxRow l.bytes l.end

abbrev pub decreases-loop-len : goal.decreases-loop-len
decreases-loop-len l = length l.bytes - l.end
