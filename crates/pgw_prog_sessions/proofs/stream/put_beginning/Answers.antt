use Rattle.std.proofs.Common.{◌∷◌, [], subst, sym}
use Rattle.pgw_startup.specs.declared.authentication.Authentication.TheVariants as authentication
use Rattle.pgw_backend.specs.declared.backend.PgWireBackendMessage.TheVariants as backend
use Rattle.pgw_prog_sessions.specs.Stream.{HasEncoding, description, stream_ready}
use Rattle.pgw_prog_sessions.proofs.StreamLaws.{description_encodes, greeting_encodes, puts_on, ready_encodes}
use Rattle.pgw_prog_sessions.proofs.stream.put_beginning.Goals as goal

pub put-requires : goal.put-requires
put-requires c = greeting_encodes

pub put-requires-2 : goal.put-requires-2
put-requires-2 c = subst HasEncoding (sym c.ready.ensures) ready_encodes

pub put-requires-3 : goal.put-requires-3
put-requires-3 c = subst HasEncoding (sym c.in_ok-description.ensures) description_encodes

pub returns : goal.returns
returns c =
    let old = c.args.out.now.items in
    let one = c.put.new.out.items in
    let two = c.put-2.new.out.items in
    let all = c.put-3.new.out.items in
    puts_on (backend.Authentication authentication.Ok ∷ []) (stream_ready ∷ description ∷ []) old one all
    c.in_ok-put.ensures
    (puts_on (stream_ready ∷ []) (description ∷ []) one two all (rw c.ready.ensures at c.in_ok-put-2.ensures)
    (rw c.in_ok-description.ensures at c.in_ok-put-3.ensures))
