-- What was written before the refusal is cut off again, and the refusal is that of the whole message.
use Rattle.std.proofs.Common.{◌≡◌, ℕ, ◌+◌, ◌≤◌, List, ◌++◌, length, take, Option, Some, None, Err, sym, ◌∙◌, arith}
use Rattle.std.proofs.lemmas.Bool.{le-ltb}
use Rattle.std.proofs.Math.Seq.{take-append_seam}
use Rattle.pgw_types.specs.declared.error.PgWireError.{PgWireError}
use Rattle.pgw_wire.specs.declared.framing.Framing.{Framing}
use Rattle.pgw_wire.specs.Framing.{saturated, length_field, body_or, encoded}
use Rattle.pgw_wire.proofs.Laws.{ok_is}
use Rattle.pgw_wire.proofs.message.Message.encode.Goals as goal

cut_back : (before header after cut : List ℕ) (start : ℕ) → cut ≡ take start after → after ≡ before ++ header
    → start ≡ length before → cut ≡ before
cut_back before header after cut start is whole at = rw (is, whole, at) (take-append_seam before header)

refused : (framing : Framing) (limit : ℕ) (fault : Option PgWireError) (body : List ℕ) (e : PgWireError)
    → saturated (length body + length_field framing) ≤ limit → body_or fault body ≡ Err e
    → encoded framing limit fault body ≡ Err e
unfolding encoded
refused framing limit None body e fits is = absurd cc
refused framing limit (Some d) body e fits is =
    rw (le-ltb limit (saturated (length body + length_field framing)) fits) is

pub returns-in-Err : goal.returns-in-Err
returns-in-Err g c =
    let whole = ok_is _ _ c.in_ok-put_header.ensures in (
      cut_back c.args.buf.now.items _ c.encode_body.new.buf.items c.truncate.new.self.items c.len-start.result
          c.truncate.ensures.items (c.in-Err.ensures.0
          ∙ sym whole) c.len-start.ensures.value,
      λ known. refused g.Self.Message.row_framing g.Self.Message.limit
          (g.Self.Message.fault c.args.self.now) (g.Self.Message.written c.args.self.now) c.in-Err.e
          (omega arith) (c.in-Err.ensures.1 known),
    )
