use Rattle.std.proofs.Common.{Ok, List, ℕ, refl, subst}
use Rattle.pgw_dialogue.specs.Wire.{PutOut}
use Rattle.pgw_client_calls.specs.Canceling.{cancel_bytes, unspelled}
use Rattle.pgw_client_calls.proofs.CancelLaws.{cancel_sent}
use Rattle.pgw_client_calls.proofs.canceling.CancelToken.cancel.Goals as goal

pub returns-in-Ok-clause-cancels : goal.returns-in-Ok-clause-cancels
returns-in-Ok-clause-cancels g c =
    let token = c.args.self.now in
    let spelled = cancel_bytes token.process_id token.secret_key in
    let put =
    subst (λ (b : List ℕ). PutOut spelled b c.put.new.out.items (Ok tt)) c.new-out.ensures.items
    c.in-Ok.ensures in
    cancel_sent token.address spelled c.put.new.out.items c.send_once.result put
    (rw c.as_slice.ensures at c.send_once.ensures.sent) c.send_once.ensures.calm c.send_once.ensures.next
    (rw c.as_slice.ensures at c.send_once.ensures.failed)

pub returns-clause-cancels : goal.returns-clause-cancels
returns-clause-cancels g c = unspelled c.in-Err.error refl c.in-Err.ensures.1
