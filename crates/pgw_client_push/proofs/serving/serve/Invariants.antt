use Rattle.std.proofs.Common.{length}
use Rattle.pgw_dialogue.specs.Input.{input_of}
use Rattle.pgw_client_push.specs.Serving.{InboxLeadsTo}
use Rattle.pgw_client_push.proofs.serving.serve.Given as goal

abbrev pub invariant-messages : goal.invariant-messages
invariant-messages l =
    InboxLeadsTo (input_of l.fn.input) l.fn.notes l.notes l.fn.inbox l.inbox l.fn.out.items l.out.items

abbrev pub decreases-messages : goal.decreases-messages
decreases-messages l = length l.inbox
