use Rattle.std.proofs.Common.{◌<◌, ◌++◌, ℕ, List, length, arith, subst, ap, ◌∙◌}
use Rattle.pgw_link.specs.Sending.{WroteSome}
use Rattle.pgw_client.proofs.SessionTakingLaws.{refused, unsent, whole}
use Rattle.pgw_client.proofs.session.take_all.Goals as goal

pub returns-in-Err-send-clause-talks : goal.returns-in-Err-send-clause-talks
returns-in-Err-send-clause-talks g c f =
    let s = rw c.in-Ok-Went.field-0-is at c.in-Ok-Went.ensures.step in
    let mid = g.L.Link.tape c.messages.link in
    let new = g.L.Link.tape c.send.new.link in
    let bytes_are = c.as_slice.ensures ∙ s.1 ∙ ap (λ (o : List ℕ). o ++ s.0) c.messages.invariant.empty in
    let wrote = subst (λ b. WroteSome mid new b) bytes_are c.in-Err-send.ensures.failed in
    let some : 0 < length s.0 = omega (arith, ap length bytes_are, ap length c.as_slice.ensures) in
    unsent c.advance.new.buffer c.advance.new.notes s.0 (c.messages.invariant.going f) s.2 some wrote

pub returns-in-Err-clause-talks : goal.returns-in-Err-clause-talks
returns-in-Err-clause-talks g c f = refused c.in-Err.e (c.messages.invariant.going f) c.in-Err.ensures.step.1

pub returns-in-Ok-Done-clause-talks : goal.returns-in-Ok-Done-clause-talks
returns-in-Ok-Done-clause-talks g c f =
    let s = rw c.in-Ok-Done.field-0-is at c.in-Ok-Done.ensures.step in
    whole c.advance.new.buffer c.advance.new.notes s.0 (c.messages.invariant.going f) s.1 s.3
