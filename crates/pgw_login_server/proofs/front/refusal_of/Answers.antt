use Rattle.pgw_login_server.proofs.ClientFront.{decoded_some}
use Rattle.pgw_login_server.proofs.front.refusal_of.Goals as goal

pub returns-in-Ok-clause-none : goal.returns-in-Ok-clause-none
returns-in-Ok-clause-none c is =
    let d = rw c.phase.ensures at c.in-Ok.ensures.exact in
    decoded_some c.in-Ok.found c.args.buffer.now.items c.decode.new.buf.items _ d
