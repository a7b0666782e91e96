-- Rows as they came: whole DataRow messages, one behind the other.
use Rattle.std.specs.Prelude.{◌≡◌, ℕ, zero, suc, ◌≤◌, ◌<◌, List, [], ◌∷◌, ◌++◌, length, take, drop, slice_range, Option, Some, None}
use Rattle.std.specs.List.{flat_map, AllByRecursion}
use Rattle.std.specs.Int.{w16, from_be_bytes, cast_signed}
use Rattle.pgw_wire.specs.Formats.{SpellsTyped, SpellsMany}
use Rattle.pgw_wire.specs.Header.{typed_end}
use Rattle.pgw_query.specs.declared.data.DataRow.{DataRow}
use Rattle.pgw_query.specs.Rows.{SpellsDataRow}
use Rattle.pgw_query.specs.declared.run.Run.{Run}
use Rattle.pgw_query.specs.declared.run.Run.TheVariants as run
use Rattle.pgw_query.specs.declared.run.Span.{Span}
use Rattle.pgw_query.specs.declared.run.Head.{Head}
use Rattle.pgw_query.specs.declared.row_ref.DataRowRef.{DataRowRef}
use Rattle.pgw_wire.specs.declared.limits.TheConstants.{LONG_LIMIT}

-- ---- which bytes are rows

-- these bytes, and no others, are the row as a message: `D`, its length, the number of its values, and its payload
abbrev pub SpellsRow : DataRow → List ℕ → Type 0
SpellsRow row bytes = SpellsTyped 68 LONG_LIMIT SpellsDataRow row bytes

-- some rows, one behind the other
abbrev pub SpellsRows : List DataRow → List ℕ → Type 0
SpellsRows rows bytes = SpellsMany SpellsRow rows bytes

-- no row stands whole at the front
abbrev pub HasNoRow : List ℕ → Type 0
HasNoRow bytes = (row : DataRow) (g rest : List ℕ) → SpellsRow row g → bytes ≡ g ++ rest → ⊥

-- The rows that `taken` spells were cut off the front of some bytes, and put behind others.
pub record MovesRows (old new : List DataRow) (old_bytes new_bytes : List ℕ) (count : ℕ) : Type 0
  where
    pub rows : List DataRow
    pub taken : List ℕ
    pub spelled : SpellsRows rows taken
    pub cut : old_bytes ≡ taken ++ new_bytes
    pub put : new ≡ old ++ rows
    pub counted : count ≡ length rows

-- ---- reading them off

-- where the message at the front ends
abbrev pub row_end : List ℕ → ℕ
row_end bytes = typed_end bytes

-- the row in it
abbrev pub row_in : List ℕ → DataRow
row_in bytes =
    record {
      field_count = cast_signed w16 (from_be_bytes w16 (take 2 (drop 5 bytes)));
      payload =
          slice_range bytes 7 (row_end bytes);
    }

-- so many, one behind the other
abbrev pub rows_in : ℕ → List ℕ → List DataRow
rows_in zero bytes = []
rows_in (suc n) bytes = row_in bytes ∷ rows_in n (drop (row_end bytes) bytes)

-- there is room for a row's message
abbrev pub HasHead : List ℕ → Type 0
HasHead bytes = (7 ≤ row_end bytes) × (row_end bytes ≤ length bytes)

-- the message at the front is read off: how many values its row has, and where it ends
abbrev pub IsHead : List ℕ → Head → Type 0
IsHead bytes head = (head.field_count ≡ (row_in bytes).field_count) × (head.end ≡ row_end bytes)

-- a row stands whole at the front, up to this end
pub record StandsTo (bytes : List ℕ) (end : ℕ) : Type 0 where
  pub row : DataRow
  pub spelled : SpellsRow row (take end bytes)
  pub some : 0 < end
  pub whole : end ≤ length bytes

-- where the row at the front ends, if one stands whole there
abbrev pub RowEndsAt : List ℕ → Option ℕ → Type 0
RowEndsAt bytes None = HasNoRow bytes
RowEndsAt bytes (Some end) = StandsTo bytes end

-- how many rows stand whole at the front, and where they end
pub record IsSpan (bytes : List ℕ) (span : Span) : Type 0 where
  pub within : span.end ≤ length bytes
  pub spelled : SpellsRows (rows_in span.rows (take span.end bytes)) (take span.end bytes)
  pub none : span.rows ≡ 0 → span.end ≡ 0
  pub all : HasNoRow (drop span.end bytes)

-- ---- runs

-- the rows of a run
abbrev pub run_rows : Run → List DataRow
run_rows (run.Messages count bytes) = rows_in count bytes
run_rows (run.Row row) = row ∷ []

-- a run of messages has some
abbrev pub IsRun : Run → Type 0
IsRun (run.Messages count bytes) = (0 < count) × SpellsRows (rows_in count bytes) bytes
IsRun (run.Row row) = Unit {0}

abbrev pub rows_of : List Run → List DataRow
rows_of runs = flat_map run_rows runs

abbrev pub AreRuns : List Run → Type 0
AreRuns runs = AllByRecursion IsRun runs

-- the rows of a run behind a place, and of other runs
abbrev pub rows_from : ℕ → List ℕ → List Run → List DataRow
rows_from left bytes runs = rows_in left bytes ++ rows_of runs

abbrev pub AreLeft : ℕ → List ℕ → List Run → Type 0
AreLeft left bytes runs = SpellsRows (rows_in left bytes) bytes × AreRuns runs

-- a row that is lent, as the row
abbrev pub lent_row : DataRowRef → DataRow
lent_row row = record { field_count = row.field_count; payload = row.payload.now }
