use Rattle.pgw_dialogue.proofs.MachineLaws.{unsent}
use Rattle.pgw_dialogue.proofs.machine.go_on.Goals as goal

pub returns-in-Err-put_reply-clause-moved : goal.returns-in-Err-put_reply-clause-moved
returns-in-Err-put_reply-clause-moved c =
    unsent _ _ c.note.new.notes _ c.args.out.now.items c.put_reply.new.out.items c.in-Err-put_reply.e
    c.in-Err-put_reply.ensures.put
