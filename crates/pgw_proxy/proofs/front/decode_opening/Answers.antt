use Rattle.std.proofs.Common.{Some, ap, ◌∙◌}
use Rattle.pgw_frontend.specs.declared.frontend.PgWireFrontendMessage.TheVariants as frontend
use Rattle.pgw_proxy.proofs.FrontLaws.{first_instead}
use Rattle.pgw_proxy.proofs.front.decode_opening.Goals as goal

pub returns-in-Some-SslNegotiation-None : goal.returns-in-Some-SslNegotiation-None
returns-in-Some-SslNegotiation-None g c =
    let old = g.B.Buffer.held c.args.bytes.now in
    let mid = g.B.Buffer.held c.decode_from.new.buf in
    let new = g.B.Buffer.held c.decode_from-in-Some-SslNegotiation-None.new.buf in
    let arm = c.in-Some-SslNegotiation-None in
    let is = arm.is ∙ ap Some (arm.field-0-is ∙ ap frontend.SslNegotiation arm.field-0-0-is) in
    let found = rw is at c.in_ok-found.ensures.exact in
    let spelled = rw is at c.in_ok-found.ensures.found in
    let next = rw c.past_requests.ensures at c.decode_from-in-Some-SslNegotiation-None.ensures.exact in
    first_instead c.args.context.now old mid new c.decode_from-in-Some-SslNegotiation-None.result found spelled
    next
