-- Where the rows of a result lie.
use Rattle.std.specs.Prelude.{◌≡◌, ℕ, zero, suc, ◌+◌, List, [], ◌∷◌, ◌++◌, drop, slice_get, Option, Some, None}
use Rattle.pgw_query.specs.declared.data.DataRow.{DataRow}
use Rattle.pgw_query.specs.declared.run.Run.{Run}
use Rattle.pgw_query.specs.declared.run.Run.TheVariants as run
use Rattle.pgw_query.specs.Runs.{HasHead, row_end, row_in, run_rows}
use Rattle.hothummei_c.specs.declared.places.RowPlace.{RowPlace}

-- the row lies there in this run
abbrev pub LiesIn : Option Run → ℕ → DataRow → Type 0
LiesIn None at row = ⊥
LiesIn (Some (run.Messages count bytes)) at row =
    HasHead (drop at bytes) × (row_in (drop at bytes) ≡ row)
LiesIn (Some (run.Row alone)) at row = alone ≡ row

abbrev pub LocatesRow : List Run → RowPlace → DataRow → Type 0
LocatesRow runs place row = LiesIn (slice_get runs place.run) place.at row

-- some row lies there
abbrev pub Located : List Run → RowPlace → Type 0
Located runs place = (row : DataRow) × LocatesRow runs place row

-- each place locates its row
abbrev pub LocatesAll : List Run → List RowPlace → List DataRow → Type 0
LocatesAll runs [] [] = Unit {0}
LocatesAll runs [] (row ∷ rows) = ⊥
LocatesAll runs (place ∷ places) [] = ⊥
LocatesAll runs (place ∷ places) (row ∷ rows) =
    LocatesRow runs place row × LocatesAll runs places rows

-- the places of so many rows from an offset on, in a run with these bytes
abbrev pub messages_from : ℕ → ℕ → ℕ → List ℕ → List RowPlace
messages_from run zero at bytes = []
messages_from run (suc n) at bytes =
    record { run = run; at = at } ∷ messages_from run n (at + row_end (drop at bytes)) bytes

abbrev pub AddsMessages : ℕ → ℕ → List ℕ → List RowPlace → List RowPlace → Type 0
AddsMessages run count bytes old new = new ≡ old ++ messages_from run count 0 bytes

abbrev pub rows_in_run : Option Run → List DataRow
rows_in_run None = []
rows_in_run (Some run) = run_rows run

abbrev pub AddsRun : List Run → ℕ → List RowPlace → List RowPlace → Type 0
AddsRun runs run old new =
    (more : List RowPlace) × (new ≡ old ++ more)
    × LocatesAll runs more (rows_in_run (slice_get runs run))
