-- What taking rows does. The proofs carry it, and no public clause of a session cites it.
use Rattle.std.specs.Prelude.{◌≡◌, ◌<◌, ℕ, List, [], ◌++◌, length, Bool, true, false, Option, Some, None}
use Rattle.pgw_query.specs.declared.data.DataRow.{DataRow}
use Rattle.pgw_machine.specs.Course.{Waits}
use Rattle.pgw_backend.specs.declared.backend.PgWireBackendMessage.TheVariants as backend
use Rattle.pgw_query.specs.Runs.{SpellsRows}
use Rattle.pgw_session.specs.declared.notes.Notes.{Notes}
use Rattle.pgw_session.specs.declared.tally.Tally.{Tally}
use Rattle.pgw_session.specs.declared.tally.Opened.{Opened}
use Rattle.pgw_session.specs.declared.stage.Next.TheVariants.{Goes}
use Rattle.pgw_session.specs.Input.{Input}
use Rattle.pgw_session.specs.Table.{next_after}
use Rattle.pgw_dialogue.specs.Machine.{runs}

-- a row leaves the stage, and neither an error nor a message without a place was got in this segment
pub record TakesRows (notes : Notes) : Type 0 where
  pub stays : (input : Input) (row : DataRow)
      → next_after input notes.stage (backend.DataRow row) ≡ Goes notes.stage None
  pub clean : notes.first_passed ≡ None
  pub fine : notes.tally.remote ≡ None

-- some rows are those of the open result, or else of the portal
abbrev pub with_rows : Option Opened → Tally → List DataRow → Tally
with_rows None t rows = record t { rows = t.rows ++ rows }
with_rows (Some opened) t rows =
    record t { opened = Some (record opened { rows = opened.rows ++ rows }) }

-- the rows at the front of some bytes were taken and added to them
pub record AddsRows (old new : Tally) (old_bytes new_bytes : List ℕ) (count : ℕ) : Type 0 where
  pub rows : List DataRow
  pub taken : List ℕ
  pub spelled : SpellsRows rows taken
  pub cut : old_bytes ≡ taken ++ new_bytes
  pub put : new ≡ with_rows old.opened old rows
  pub counted : count ≡ length rows

-- the session goes on behind them as from before them
pub record RowsTaken (some : Bool) (old new : Notes) (old_bytes new_bytes : List ℕ) : Type 0 where
  pub stage : new.stage ≡ old.stage
  pub runs_on : (input : Input) (sent : List ℕ)
      → runs input old sent old_bytes ≡ runs input new sent new_bytes
  pub front : (taken : List ℕ) × (old_bytes ≡ taken ++ new_bytes)
      × ((input : Input) (sent : List ℕ) → runs input old sent taken ≡ Waits new sent [])
  pub none : some ≡ false → (new ≡ old) × (new_bytes ≡ old_bytes)
  pub shorter : some ≡ true → length new_bytes < length old_bytes
