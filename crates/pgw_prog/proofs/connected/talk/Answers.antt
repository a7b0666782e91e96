use Rattle.std.proofs.Common.{inr}
use Rattle.pgw_prog.specs.Connected.{DialSpan, dial_span, input_for}
use Rattle.pgw_prog.proofs.ConnectLaws.{held_session, offer_is}
use Rattle.pgw_prog.proofs.connected.talk.Goals as goal

pub returns-clause-talked : goal.returns-clause-talked
returns-clause-talked g c =
    let D = g.D.Dialer in
    let dialer : DialSpan = dial_span D.tape D.foretells D.offers D.faults c.args.dialer.now c.close.new.self in
    let input = input_for c.args.asked.now c.args.nonce.now c.args.config.now in
    let over = rw c.as_slice-requests.ensures at c.run_session-outcome.ensures.session in
    inr (held_session input c.args.asked.now.limit c.args.address.now dialer (D.tape c.dial.new.self)
    (D.faults c.dial.new.self) _ _ c.run_session-outcome.result
    (λ t. g.met.D.Dialer.links_foretell t) (λ t. offer_is _ _ _ (c.in-Ok.ensures.offered t))
    c.in-Ok.ensures.counts c.close.ensures.counts c.in-Ok.ensures.faultless c.in-Ok.ensures.dialled
    c.close.ensures.shut over)
