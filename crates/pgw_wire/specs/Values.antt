-- Values that may be NULL, as parameters and rows hold them (PostgreSQL 18, section 54.7, Bind and DataRow).
use Rattle.std.specs.Prelude.{◌≡◌, ℕ, ℤ, pos, negsuc, List, ◌++◌, length, Option, Some, None, Result, Ok}
use Rattle.std.specs.Int.{w32}
use Rattle.pgw_types.specs.declared.error.PgWireError.{PgWireError}
use Rattle.pgw_wire.specs.Reading.{◌>>=◌, int_at, octets_at}
use Rattle.pgw_wire.specs.Formats.{made_at, SpellsInt}
use Rattle.pgw_wire.specs.Writing.{i32, u32}

-- so many bytes; a negative number of them is NULL
abbrev pub octets_or_null : ℤ → List ℕ → Result (Option (List ℕ) × List ℕ) PgWireError
octets_or_null (pos n) bytes = made_at Some (octets_at n) bytes
octets_or_null (negsuc n) bytes = Ok (None, bytes)

unfoldable pub nullable_at : List ℕ → Result (Option (List ℕ) × List ℕ) PgWireError
nullable_at bytes = do
  len ← int_at w32 bytes
  octets_or_null len.0 len.1

-- NULL is written as the length -1; a length that is too great for 32 bits stands in no message
unfoldable pub nullable : Option (List ℕ) → List ℕ
nullable None = i32 (negsuc 0)
nullable (Some value) = u32 (length value) ++ value

-- a length and as many bytes, or any negative length for NULL
abbrev pub SpellsNullable : Option (List ℕ) → List ℕ → Type 0
SpellsNullable None bytes = (n : ℕ) × SpellsInt w32 (negsuc n) bytes
SpellsNullable (Some value) bytes =
    (len : List ℕ) × (bytes ≡ len ++ value) × SpellsInt w32 (pos (length value)) len
