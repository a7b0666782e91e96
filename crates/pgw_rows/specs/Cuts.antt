-- Where values stand in a row. The proofs carry it, and no public clause cites it.
use Rattle.std.specs.Prelude.{◌≡◌, ℕ, ℤ, ◌+◌, ◌≤◌, ◌<◌, List, length, drop, slice_range, Option, Some, None, Result, Ok, Err}
use Rattle.std.specs.Int.{w32}
use Rattle.std.specs.Result.{result_ok}
use Rattle.pgw_wire.specs.Reading.{int_at}
use Rattle.pgw_query.specs.declared.field_info.FieldInfo.{FieldInfo}
use Rattle.pgw_query.specs.declared.row_error.RowError.{RowError}
use Rattle.pgw_query.specs.declared.row_error.RowError.TheVariants as why
use Rattle.pgw_rows.specs.declared.cut.Cut.{Cut}
use Rattle.pgw_rows.specs.Rows.{value_at, row_standing}

-- the length before a value
abbrev pub HasLength : List ℕ → Option ℤ → Type 0
HasLength bytes None = result_ok (int_at w32 bytes) ≡ None
HasLength bytes (Some len) = (int_at w32 bytes ≡ Ok (len, drop 4 bytes)) × (4 ≤ length bytes)

-- where the value at an index of a row ends, and so the next one begins; none for NULL, behind whose length the next begins
abbrev pub Locates : List ℕ → ℕ → Option (Option ℕ) → Type 0
Locates row at None = value_at (drop at row) ≡ None
Locates row at (Some None) =
    (at + 4 ≤ length row) × (value_at (drop at row) ≡ Some (None, drop (at + 4) row))
Locates row at (Some (Some end)) =
    (at + 4 ≤ end) × (end ≤ length row)
    × (value_at (drop at row) ≡ Some (Some (slice_range row (at + 4) end), drop end row))

abbrev pub IsIn : List ℕ → Cut → Type 0
IsIn row cut = (cut.from ≤ cut.to) × (cut.to ≤ length row)

abbrev pub cut_of : List ℕ → Cut → List ℕ
cut_of row cut = slice_range row cut.from cut.to

-- a value was passed over
pub record PassesValue (fields : List FieldInfo) (row : List ℕ)
    (old_passed old_at new_passed new_at : ℕ) (value : Option (List ℕ)) : Type 0 where
  pub column : old_passed < length fields
  pub counted : new_passed ≡ old_passed + 1
  pub within : new_at ≤ length row
  pub value_is : value_at (drop old_at row) ≡ Some (value, drop new_at row)

-- what passing a value over answers
abbrev pub PassesCut : List FieldInfo → List ℕ → ℕ → ℕ → ℕ → ℕ → Result (Option Cut) RowError
    → Type 0
PassesCut fields row old_passed old_at new_passed new_at (Ok None) =
    PassesValue fields row old_passed old_at new_passed new_at None
PassesCut fields row old_passed old_at new_passed new_at (Ok (Some cut)) =
    PassesValue fields row old_passed old_at new_passed new_at (Some (cut_of row cut))
    × IsIn row cut
PassesCut fields row old_passed old_at new_passed new_at (Err e) =
    (e ≡ why.DataRowIndexOutOfBounds) × (new_passed ≡ old_passed) × (new_at ≡ old_at)
    × (row_standing (record { fields = fields; passed = old_passed; bytes = drop old_at row })
    ≡ None)
