use Rattle.std.proofs.Common.{arith}
use Rattle.pgw_query.proofs.RunLaws.{rest_of}
use Rattle.pgw_dialogue.specs.Inbox.{nothing}
use Rattle.pgw_dialogue.proofs.InboxLaws.{row_on}
use Rattle.pgw_dialogue.proofs.inbox.whole_len.Goals as goal

pub loop-len-init : goal.loop-len-init
loop-len-init c = (omega arith, nothing)

pub loop-len-preserved : goal.loop-len-preserved
loop-len-preserved c =
    let bytes = c.args.bytes.now in
    let end = c.loop-len.end in
    let found = rw (rest_of bytes end) at c.in-Some.ensures in
    row_on bytes end c.in-Some.len c.loop-len.invariant found
