use Rattle.std.proofs.Common.{◌∷◌, [], sym, subst, Err}
use Rattle.pgw_frontend.specs.Frontend.{encoding, encodings}
use Rattle.pgw_frontend.specs.declared.frontend.PgWireFrontendMessage.TheVariants as frontend
use Rattle.pgw_dialogue.specs.Wire.{IsOwn, PutOut}
use Rattle.pgw_dialogue.proofs.WireLaws.{own_of, alone_refused}
use Rattle.pgw_dialogue.proofs.wire.put_query.Goals as goal

pub returns-in-Err-clause-own : goal.returns-in-Err-clause-own
returns-in-Err-clause-own c = subst IsOwn (sym c.from.ensures) (own_of c.in-Err.e)

pub returns-in-Err-clause-put : goal.returns-in-Err-clause-put
unfolding encoding
returns-in-Err-clause-put c =
    let m = frontend.Query (record { query = c.args.query.now }) in
    subst (λ e. PutOut (encodings (m ∷ [])) c.args.out.now.items c.encode_query.new.buf.items (Err e))
    (sym c.from.ensures)
    (alone_refused m c.args.out.now.items c.encode_query.new.buf.items c.in-Err.e c.in-Err.ensures.0
    c.in-Err.ensures.1)
