-- Rows that wait to be read. The proofs carry it, and no public clause cites it.
use Rattle.std.specs.Prelude.{◌≡◌, ℕ, ◌-◌, ◌≤◌, ◌<◌, List, [], ◌∷◌, length, drop, slice_range, Option, Some, None}
use Rattle.std.specs.Vec.Iter.{into_iter_items}
use Rattle.pgw_query.specs.declared.data.DataRow.{DataRow}
use Rattle.pgw_rows.specs.declared.unread.Unread.{Unread}
use Rattle.pgw_rows.specs.declared.unread.RowPlace.{RowPlace}
use Rattle.pgw_rows.specs.declared.unread.First.{First}
use Rattle.pgw_rows.specs.declared.unread.First.TheVariants as first
use Rattle.pgw_query.specs.Runs.{AreLeft, rows_from}

abbrev pub unread_rows : Unread → List DataRow
unread_rows u = rows_from u.left (drop u.at u.bytes) (into_iter_items u.runs)

abbrev pub IsUnread : Unread → Type 0
IsUnread u = (u.at ≤ length u.bytes) × AreLeft u.left (drop u.at u.bytes) (into_iter_items u.runs)

-- what comes first was looked for
abbrev pub FindsFirstRow : Unread → Unread → First → Type 0
FindsFirstRow old new first.Nothing = (unread_rows old ≡ []) × (unread_rows new ≡ [])
FindsFirstRow old new (first.Alone row) =
    (unread_rows old ≡ row ∷ unread_rows new) × (new.left ≡ 0)
FindsFirstRow old new first.InRun = (unread_rows new ≡ unread_rows old) × (0 < new.left)

-- the row at a place, whose payload lies there
abbrev pub row_at : Unread → RowPlace → DataRow
row_at u place =
    record { field_count = place.field_count; payload = slice_range u.bytes place.from place.to }

-- the payload of the row that comes first lies there
pub record IsRowPlace (u : Unread) (place : RowPlace) : Type 0 where
  pub ordered : place.from ≤ place.to
  pub within : place.to ≤ length u.bytes
  pub rows : unread_rows u ≡ row_at u place ∷ unread_rows
      (record u { at = place.to; left = u.left - 1 })
  pub others : IsUnread (record u { at = place.to; left = u.left - 1 })

-- it no longer waits
pub record PassesRow (old : Unread) (place : RowPlace) (new : Unread) : Type 0 where
  pub are : IsUnread new
  pub same : new.bytes ≡ old.bytes
  pub rows : unread_rows old ≡ row_at old place ∷ unread_rows new

-- it lies in the bytes
abbrev pub IsWithinBytes : List ℕ → RowPlace → Type 0
IsWithinBytes bytes place = (place.from ≤ place.to) × (place.to ≤ length bytes)

-- what came first no longer waits, and its payload lies at the place
abbrev pub TakesFirstRow : Unread → Unread → Option RowPlace → Type 0
TakesFirstRow old new None = (unread_rows old ≡ []) × (unread_rows new ≡ [])
TakesFirstRow old new (Some place) =
    (unread_rows old ≡ row_at new place ∷ unread_rows new) × IsWithinBytes new.bytes place
