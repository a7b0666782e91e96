use Rattle.std.proofs.Common.{Some, ap, ◌∙◌}
use Rattle.pgw_frontend.specs.declared.frontend.PgWireFrontendMessage.TheVariants as frontend
use Rattle.pgw_login_server.proofs.ClientFront.{first_instead}
use Rattle.pgw_login_server.proofs.front.next_message.Goals as goal

pub returns-in-Some-SslNegotiation-None : goal.returns-in-Some-SslNegotiation-None
returns-in-Some-SslNegotiation-None c =
    let v = c.args.version in
    let old = c.args.inbox.now.items in
    let mid = c.decode-2.new.buf.items in
    let new = c.decode-in-Some-SslNegotiation-None.new.buf.items in
    let arm = c.in-Some-SslNegotiation-None in
    let is = arm.is ∙ ap Some (arm.field-0-is ∙ ap frontend.SslNegotiation arm.field-0-0-is) in
    let found = rw (is, c.phase-2.ensures) at c.in_ok-found.ensures.exact in
    let spelled = rw (is, c.phase-2.ensures) at c.in_ok-found.ensures.found in
    let next =
    rw c.phase-in-Some-SslNegotiation-None.ensures at c.decode-in-Some-SslNegotiation-None.ensures.exact in
    let r = c.decode-in-Some-SslNegotiation-None.result in
    rw c.if-started.false (first_instead c.args.bound v old mid new r found spelled next)
