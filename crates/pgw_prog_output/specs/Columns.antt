-- The columns of printed rows.
use Rattle.std.specs.Prelude.{◌==◌, ◌||◌, ℕ, List, Option, if◌then◌else◌}
use Rattle.pgw_prog_output.specs.declared.columns.ColumnKind.{ColumnKind}
use Rattle.pgw_prog_output.specs.declared.columns.ColumnKind.TheVariants as kind

-- a value of a row: its bytes, or none for NULL
abbrev pub Value : Type 0
Value = Option (List ℕ)

-- boolean; bigint, smallint, integer, oid, real, double precision and numeric (pg_type)
abbrev pub column_kind : ℕ → ColumnKind
column_kind oid =
    if oid == 16 then kind.Truth
    else if (oid == 20) || (oid == 21) || (oid == 23) || (oid == 26) || (oid == 700) ||
    (oid == 701) || (oid == 1700) then kind.Number
    else kind.Words
