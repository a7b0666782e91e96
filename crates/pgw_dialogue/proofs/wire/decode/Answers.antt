use Rattle.std.proofs.Common.{sym, subst, Err}
use Rattle.pgw_dialogue.specs.Wire.{IsOwn, Decoded}
use Rattle.pgw_dialogue.proofs.WireLaws.{own_of, found, refused}
use Rattle.pgw_dialogue.proofs.wire.decode.Goals as goal

pub returns-in-Ok-clause-decoded : goal.returns-in-Ok-clause-decoded
returns-in-Ok-clause-decoded g c =
    found c.args.version (g.B.Buffer.held c.args.buffer.now) (g.B.Buffer.held c.decode_from.new.buf) c.in-Ok.found
    (rw c.typed_phase.ensures at c.in-Ok.ensures.exact)

pub returns-in-Err-clause-own : goal.returns-in-Err-clause-own
returns-in-Err-clause-own g c = subst IsOwn (sym c.from.ensures) (own_of c.in-Err.e)

pub returns-in-Err-clause-decoded : goal.returns-in-Err-clause-decoded
returns-in-Err-clause-decoded g c =
    subst (λ e. Decoded c.args.version (g.B.Buffer.held c.args.buffer.now) (g.B.Buffer.held c.decode_from.new.buf)
    (Err e)) (sym c.from.ensures)
    (refused c.args.version (g.B.Buffer.held c.args.buffer.now) (g.B.Buffer.held c.decode_from.new.buf) c.in-Err.e
    (rw c.typed_phase.ensures at c.in-Err.ensures.exact))
