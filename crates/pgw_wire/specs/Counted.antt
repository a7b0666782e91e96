-- Lists with an unsigned count of 16 bits.
use Rattle.std.specs.Prelude.{◌≡◌, ℕ, Bool, List, ◌++◌, length, Result, nat_lt}
use Rattle.std.specs.List.{flat_map}
use Rattle.std.specs.Int.{w16}
use Rattle.pgw_types.specs.declared.error.PgWireError.{PgWireError}
use Rattle.pgw_wire.specs.Reading.{◌>>=◌, nat_at, list_at}
use Rattle.pgw_wire.specs.Formats.{SpellsNat, SpellsMany}
use Rattle.pgw_wire.specs.Writing.{u16}

abbrev pub counted16_at : {A : Type 0} → ℕ → (List ℕ → Result (A × List ℕ) PgWireError) → List ℕ
    → Result (List A × List ℕ) PgWireError
counted16_at least kind bytes = do
  count ← nat_at w16 bytes
  list_at kind least count.0 count.1

abbrev pub SpellsCounted16 : {A : Type 0} → (A → List ℕ → Type 0) → List A → List ℕ → Type 0
SpellsCounted16 Spells xs bytes =
    (count : List ℕ) × (rest : List ℕ) × (bytes ≡ count ++ rest) × SpellsNat w16 (length xs) count
    × SpellsMany Spells xs rest

abbrev pub counted16 : {A : Type 0} → (A → List ℕ) → List A → List ℕ
counted16 spelled xs = u16 (length xs) ++ flat_map spelled xs

-- more elements than a count of 16 bits tells
abbrev pub is_too_long : {A : Type 0} → List A → Bool
is_too_long xs = nat_lt 65535 (length xs)
