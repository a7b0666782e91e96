-- Which bytes a dialogue stands for: those that it was given, and those that it put out.
use Rattle.std.specs.Prelude.{◌≡◌, ◌⊎◌, ◌<◌, ◌≤◌, ℕ, ◌+◌, List, [], ◌∷◌, ◌++◌, length, Some, None, Result, Ok, Err}
use Rattle.pgw_backend.specs.declared.client_error.PgWireClientError.{PgWireClientError as ClientError}
use Rattle.pgw_backend.specs.declared.client_error.PgWireClientError.TheVariants as client
use Rattle.pgw_session.specs.Input.{input_with, Input}
use Rattle.pgw_dialogue.specs.Machine.{notes_end, report_at}
use Rattle.pgw_machine.specs.Course.{Begins, CourseWaits}
use Rattle.pgw_machine.specs.Course.{Course, Waits, Over}
use Rattle.pgw_frontend.specs.Frontend.{encodings}
use Rattle.pgw_session.specs.declared.types.SessionReport.{SessionReport}
use Rattle.pgw_session.specs.Demands.{refused_config}
use Rattle.pgw_session.specs.Machine.{Complete, error_of}
use Rattle.pgw_session.specs.Notes.{view}
use Rattle.pgw_session.specs.Segments.{startup_message}
use Rattle.pgw_session.specs.Talk.{Talk, Ending, conversation}
use Rattle.pgw_session.specs.Transcript.{report_of}
use Rattle.pgw_dialogue.specs.declared.dialogue.Dialogue.{Dialogue}
use Rattle.pgw_dialogue.specs.declared.phase.DialoguePhase.{DialoguePhase}
use Rattle.pgw_dialogue.specs.declared.phase.DialoguePhase.TheVariants as phase
use Rattle.pgw_dialogue.specs.declared.phase.State.{State}
use Rattle.pgw_dialogue.specs.declared.phase.State.TheVariants as state
use Rattle.pgw_dialogue.specs.Answers.{answer_to, IsOrLacks, taken_of, Tells}

-- what it was made for
abbrev pub input_at : Dialogue → Input
input_at d = input_with (d.config).now (d.requests).now d.nonce

-- ---- how far it has come

-- it takes bytes, and may take one more
abbrev pub Awaits : Dialogue → Type 0
Awaits d = (d.state ≡ state.Going) × (0 < d.room)

abbrev pub IsDone : Dialogue → Type 0
IsDone d = d.state ≡ state.Done

-- an earlier call wanted memory
abbrev pub IsStarved : Dialogue → Type 0
IsStarved d = d.state ≡ state.Starved

-- an earlier call was refused
abbrev pub IsBroken : Dialogue → Type 0
IsBroken d = (d.state ≡ state.Refused) ⊎ IsStarved d

-- ---- what it stands for

-- the conversation has ended with an error, or waits where the limit is reached
abbrev pub DialogueSettles : Course Talk Ending → ℕ → List ℕ → List ℕ → Type 0
DialogueSettles course limit given put =
    ((ending : Ending) × (e : ClientError) × (course ≡ Over ending put) ×
    (error_of ending.outcome ≡ Some e))
    ⊎ (CourseWaits course put × (limit ≤ length given))

-- The conversation of the bytes given has come to where the dialogue is, and what was put out is what is sent in it; of
-- this no more than a front where memory was wanting.
abbrev pub StandsIn : State → Dialogue → Input → ℕ → List ℕ → List ℕ → Type 0
StandsIn state.Going d input limit given put =
    (t : Talk) × (conversation input given ≡ Waits t put d.inbox) × (d.notes ≡ view input t)
    × (length given + d.room ≡ limit)
StandsIn state.Done d input limit given put =
    (t : Talk)
    × (conversation input (taken_of limit given) ≡ Over (record { notes = t; outcome = Complete })
    put)
    × (report_at d.notes ≡ report_of input t.closed)
StandsIn state.Refused d input limit given put =
    DialogueSettles (conversation input (taken_of limit given)) limit given put
StandsIn state.Starved d input limit given put =
    Begins (conversation input (taken_of limit given)) put

pub record Stands (input : Input) (limit : ℕ) (d : Dialogue) (given put : List ℕ) : Type 0 where
  pub made_for : input_at d ≡ input
  pub stands : StandsIn d.state d input limit given put

-- ---- its calls

-- why nothing was begun
abbrev pub StartCause : Input → ClientError → Type 0
StartCause input client.OutOfMemory = Unit {0}
StartCause input (client.InvalidConfig key) = refused_config input.config ≡ Some key
StartCause input (client.PgWireError why) =
    (refused_config input.config ≡ None) × (encodings (startup_message input ∷ []) ≡ Err why)
StartCause input e = ⊥

abbrev pub Starts : Input → ℕ → List ℕ → List ℕ → Result Dialogue ClientError → Type 0
Starts input limit old_out new_out (Ok d) =
    (put : List ℕ) × (encodings (startup_message input ∷ []) ≡ Ok put)
    × (new_out ≡ old_out ++ put) × Stands input limit d [] put × (d.state ≡ state.Going)
    × (d.room ≡ limit)
Starts input limit old_out new_out (Err e) = (new_out ≡ old_out) × StartCause input e

-- where an answer leaves it
abbrev pub IsBehind : Dialogue → Result DialoguePhase ClientError → Type 0
IsBehind d (Ok phase.Waiting) = Awaits d
IsBehind d (Ok phase.Ready) = Awaits d
IsBehind d (Ok phase.Done) = IsDone d
IsBehind d (Err e) = IsBroken d

-- what a call answers that was given a piece, of a dialogue that stands for these bytes then
pub record AnswersDialogue (input : Input) (limit : ℕ) (given put : List ℕ)
    (result : Result DialoguePhase ClientError) : Type 0 where
  pub answer : IsOrLacks (answer_to input limit given) result
  pub tells : Tells input limit given put result

pub record Takes (old new : Dialogue) (piece old_out new_out : List ℕ)
    (result : Result DialoguePhase ClientError) : Type 0 where
  pub out : List ℕ
  pub puts : new_out ≡ old_out ++ out
  pub stands : (input : Input) (limit : ℕ) (given put : List ℕ) → Stands input limit old given put
      → Stands input limit new (given ++ piece) (put ++ out)
  pub answers : (input : Input) (limit : ℕ) (given put : List ℕ)
      → Stands input limit old given put → (IsBroken old → ⊥)
      → AnswersDialogue input limit (given ++ piece) (put ++ out) result

-- ---- a session over a link that has all the bytes given

-- what a dialogue answers that was given them is what the session answers; where it awaits more bytes, what it means
-- that no more come
abbrev pub Agrees : Input → ℕ → Dialogue → List ℕ → Result SessionReport ClientError → Type 0
Agrees input limit d given (Ok report) = IsDone d × (report_at d.notes ≡ report)
Agrees input limit d given (Err e) =
    (answer_to input limit given ≡ Err e) ⊎ (Awaits d × (notes_end d.notes ≡ e))
