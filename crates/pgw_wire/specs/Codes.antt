-- Texts with a code, as the fields of errors and notices are.
use Rattle.std.specs.Prelude.{ℕ, ◌<◌, List, ◌∷◌, Bool, ◌||◌, Option, Some, None, Result, Ok, ◌==◌, if◌then◌else◌}
use Rattle.std.specs.Int.{w8}
use Rattle.pgw_types.specs.declared.error.PgWireError.{PgWireError}
use Rattle.pgw_wire.specs.Reading.{◌>>=◌, nat_at, text_at}
use Rattle.pgw_wire.specs.Writing.{text, has_zero}
use Rattle.pgw_wire.specs.Formats.{Pair, SpellsNat, SpellsText}

-- a code and its text
unfoldable pub coded_at : List ℕ → Result ((ℕ × List ℕ) × List ℕ) PgWireError
coded_at bytes = do
  code ← nat_at w8 bytes
  t ← text_at code.1
  Ok ((code.0, t.0), t.1)

-- as coded_at, or a code 0, which is the mark
unfoldable pub code_at : List ℕ → Result (Option (ℕ × List ℕ) × List ℕ) PgWireError
code_at bytes = do
  code ← nat_at w8 bytes
  if code.0 == 0 then Ok (None, code.1) else
      (text_at code.1 >>= λ t. Ok (Some (code.0, t.0), t.1))

-- a code that is not 0 and its text, or the mark
abbrev pub SpellsCode : Option (ℕ × List ℕ) → List ℕ → Type 0
SpellsCode None bytes = SpellsNat w8 0 bytes
SpellsCode (Some p) bytes = Pair (SpellsNat w8) SpellsText p bytes × (0 < p.0)

abbrev pub coded : ℕ × List ℕ → List ℕ
coded p = p.0 ∷ text p.1

-- a code 0 would be the mark
abbrev pub is_code_refused : ℕ × List ℕ → Bool
is_code_refused p = (p.0 == 0) || has_zero p.1
