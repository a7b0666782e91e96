-- What is left is what stands behind the frame whose body was read.
use Rattle.std.proofs.Common.{◌≡◌, ℕ, List, drop, Some, Result, Ok, refl}
use Rattle.std.specs.List.{slice_range}
use Rattle.pgw_types.specs.declared.error.PgWireError.{PgWireError}
use Rattle.pgw_wire.specs.declared.framing.Framing.{Framing}
use Rattle.pgw_wire.specs.Framing.{frame, wire_front}
use Rattle.pgw_wire.proofs.message.Message.decode_from.Goals as goal

taken : {M : Type 0} (framing : Framing) (limit : ℕ) (read : List ℕ → Result M PgWireError) (bytes : List ℕ)
    (from to : ℕ) (message : M)
    → frame framing limit bytes ≡ Ok (Some (from, to)) → read (slice_range bytes from to) ≡ Ok message
    → wire_front framing limit read bytes ≡ Ok (Some (message, drop to bytes))
unfolding wire_front
taken framing limit read bytes from to message is got = rw (is, got) refl

pub returns : goal.returns
returns g c =
    let is =
    rw (c.framing.ensures, c.max_message_length.ensures.value, c.bytes.ensures, c.in-Some.is) at
    c.in_ok-from.ensures.exact in
    rw c.pass.ensures (taken g.Self.Message.row_framing g.Self.Message.limit (g.Self.Message.reading c.args.ctx.now)
    (g.B.Buffer.held c.args.buf.now) c.in-Some.from c.in-Some.to c.in_ok-message.message is c.in_ok-message.ensures)
