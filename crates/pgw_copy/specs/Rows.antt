-- The messages of COPY (PostgreSQL 18, section 54.7, Message Formats).
use Rattle.std.specs.Prelude.{◌≡◌, ℕ, ℤ, pos, Bool, not, List, ◌∷◌, ◌++◌, length, Result, Ok}
use Rattle.std.specs.Ordering.{int_eq}
use Rattle.std.specs.List.{flat_map}
use Rattle.std.specs.Int.{w8, w16, cast_unsigned}
use Rattle.pgw_types.specs.declared.error.PgWireError.{PgWireError}
use Rattle.pgw_types.specs.declared.context.DecodeContext.{DecodeContext}
use Rattle.pgw_wire.specs.Reading.{◌>>=◌, int_at, text_at, rest_at, all_of, list_at, extended_count}
use Rattle.pgw_wire.specs.Formats.{Pair, made_at, SpellsText, SpellsInt, SpellsCounted, IsRest}
use Rattle.pgw_wire.specs.Writing.{i16}
use Rattle.pgw_copy.specs.declared.data.CopyData.{CopyData}
use Rattle.pgw_copy.specs.declared.data.CopyFail.{CopyFail}
use Rattle.pgw_copy.specs.declared.response.CopyResponse.{CopyResponse}

-- ---- CopyData, CopyFail

unfoldable pub copy_data_of : DecodeContext → List ℕ → Result CopyData PgWireError
copy_data_of ctx bytes = all_of (made_at (λ b. record { payload = b }) rest_at bytes)

abbrev pub SpellsCopyData : CopyData → List ℕ → Type 0
SpellsCopyData m = IsRest m.payload

unfoldable pub copy_fail_of : DecodeContext → List ℕ → Result CopyFail PgWireError
copy_fail_of ctx bytes = all_of (made_at (λ t. record { message = t }) text_at bytes)

abbrev pub SpellsCopyFail : CopyFail → List ℕ → Type 0
SpellsCopyFail m = SpellsText m.message

-- ---- the three responses

-- the format of all, the number of columns, and the format of each
unfoldable pub columns_at : List ℕ → Result ((ℤ × ℤ × List ℤ) × List ℕ) PgWireError
columns_at bytes = do
  format ← int_at w8 bytes
  columns ← int_at w16 format.1
  codes ← list_at (int_at w16) 2 (extended_count columns.0) columns.1
  Ok ((format.0, columns.0, codes.0), codes.1)

-- the columns are as many as their formats
abbrev pub SpellsColumns : ℤ × ℤ × List ℤ → List ℕ → Type 0
SpellsColumns p bytes =
    (p.1 ≡ pos (length p.2))
    × Pair (SpellsInt w8) (SpellsCounted w16 (SpellsInt w16)) (p.0, p.2) bytes

-- as SpellsColumns, as they are written
abbrev pub formats : ℤ → ℤ → List ℤ → List ℕ
formats format columns codes = cast_unsigned w8 format ∷ (i16 columns ++ flat_map i16 codes)

-- the columns must be as many as their formats
abbrev pub is_miscounted : ℤ → List ℤ → Bool
is_miscounted columns codes = not (int_eq columns (pos (length codes)))

-- CopyInResponse, CopyOutResponse and CopyBothResponse differ in their type bytes
unfoldable pub copy_response_of : (byte : ℕ) → DecodeContext → List ℕ
    → Result (CopyResponse byte) PgWireError
copy_response_of byte ctx bytes =
    all_of (made_at (λ p. record { format = p.0; columns = p.1; column_formats = p.2 }) columns_at
    bytes)

abbrev pub SpellsCopyResponse : {byte : ℕ} → CopyResponse byte → List ℕ → Type 0
SpellsCopyResponse m = SpellsColumns (m.format, m.columns, m.column_formats)
