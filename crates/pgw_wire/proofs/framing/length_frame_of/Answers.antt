-- Each test of the code is one of the definition, on the same length.
use Rattle.std.proofs.Common.{◌≡◌, ℕ, ◌+◌, ◌<◌, ◌≤◌, List, length, Some, None, Ok, Err, refl, arith}
use Rattle.std.proofs.lemmas.Bool.{le-ltb, lt-ltb}
use Rattle.pgw_types.specs.declared.error.PgWireError.TheVariants.{InvalidMessageBody}
use Rattle.pgw_wire.specs.Framing.{stated_length, length_frame}
use Rattle.pgw_wire.proofs.framing.length_frame_of.Goals as goal

too_short : (at limit : ℕ) (bytes : List ℕ) (len : ℕ) → len ≡ stated_length at bytes → at + 4 ≤ length bytes
    → len ≤ limit → len < 4 → length_frame at limit bytes ≡ Err InvalidMessageBody
unfolding length_frame
too_short at limit bytes len is field fits short =
    rw (← is, le-ltb (length bytes) (at + 4) field, le-ltb limit len fits, lt-ltb len 4 short) refl

not_yet : (at limit : ℕ) (bytes : List ℕ) (len : ℕ) → len ≡ stated_length at bytes → at + 4 ≤ length bytes
    → len ≤ limit → 4 ≤ len → length bytes < at + len → length_frame at limit bytes ≡ Ok None
unfolding length_frame
not_yet at limit bytes len is field fits long more =
    rw (
      ← is,
      le-ltb (length bytes) (at + 4) field,
      le-ltb limit len fits,
      le-ltb len 4 long,
      lt-ltb
          (length bytes) (at + len) more,
    ) refl

whole : (at limit : ℕ) (bytes : List ℕ) (len : ℕ) → len ≡ stated_length at bytes → at + 4 ≤ length bytes
    → len ≤ limit → 4 ≤ len → at + len ≤ length bytes → length_frame at limit bytes ≡ Ok (Some (at + 4, at + len))
unfolding length_frame
whole at limit bytes len is field fits long all =
    rw (
      ← is,
      le-ltb (length bytes) (at + 4) field,
      le-ltb limit len fits,
      le-ltb len 4 long,
      le-ltb
          (length bytes) (at + len) all,
    ) refl

pub returns-then-len-lt4-clause-exact : goal.returns-then-len-lt4-clause-exact
returns-then-len-lt4-clause-exact c =
    λ _. too_short c.args.at c.args.limit c.args.bytes.now c.stated_length_at-len.result
    c.stated_length_at-len.ensures (omega arith) (omega arith) (omega arith)

pub returns-then-bytes-at-2-clause-exact : goal.returns-then-bytes-at-2-clause-exact
returns-then-bytes-at-2-clause-exact c =
    not_yet c.args.at c.args.limit c.args.bytes.now c.stated_length_at-len.result c.stated_length_at-len.ensures
    (omega arith) (omega arith) (omega arith) (omega arith)

pub returns-clause-exact : goal.returns-clause-exact
returns-clause-exact c =
    whole c.args.at c.args.limit c.args.bytes.now c.stated_length_at-len.result c.stated_length_at-len.ensures
    (omega arith) (omega arith) (omega arith) (omega arith)
