-- What opens a session, and what is done with bytes behind an answer.
use Rattle.std.specs.Prelude.{◌≡◌, List, ℕ, ◌++◌, Result, Ok, Err}
use Rattle.pgw_backend.specs.declared.client_error.PgWireClientError.{PgWireClientError as ClientError}
use Rattle.pgw_backend.specs.declared.client_error.PgWireClientError.TheVariants as client
use Rattle.pgw_dialogue.specs.declared.phase.DialoguePhase.{DialoguePhase}
use Rattle.pgw_dialogue.specs.declared.phase.DialoguePhase.TheVariants as phase
use Rattle.pgw_dialogue.specs.Dialogue.{StartCause}
use Rattle.pgw_dialogue.specs.Machine.{StartsRun}
use Rattle.pgw_session.specs.declared.notes.Notes.{Notes}
use Rattle.pgw_session.specs.Input.{Input}
use Rattle.hothummei_c.specs.declared.held.HeldState.{HeldState}
use Rattle.hothummei_c.specs.declared.held.HeldState.TheVariants as held

-- the startup message is put out; or nothing is, and the error has its cause
abbrev pub PutsStartup : Input → List ℕ → List ℕ → Result Notes ClientError → Type 0
PutsStartup input old new (Ok notes) =
    (opening : List ℕ) × StartsRun input opening (Ok notes) × (new ≡ old ++ opening)
PutsStartup input old new (Err e) = (new ≡ old) × StartCause input e

abbrev pub held_behind : Result DialoguePhase ClientError → HeldState
held_behind (Ok phase.Waiting) = held.Going
held_behind (Ok phase.Ready) = held.Going
held_behind (Ok phase.Done) = held.Done
held_behind (Err client.OutOfMemory) = held.Starved
held_behind (Err e) = held.Refused
