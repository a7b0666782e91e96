-- What a dialogue answers when these bytes have been given, and why.
use Rattle.std.specs.Prelude.{◌≡◌, ◌⊎◌, ◌≤◌, ℕ, zero, suc, ◌-◌, List, [], ◌∷◌, length, take, Option, Some, None, Result, Ok, Err, Bool, true, false}
use Rattle.pgw_backend.specs.declared.backend.PgWireBackendMessage.{PgWireBackendMessage as Backend}
use Rattle.pgw_backend.specs.declared.client_error.PgWireClientError.{PgWireClientError as ClientError}
use Rattle.pgw_backend.specs.declared.client_error.PgWireClientError.TheVariants as client
use Rattle.pgw_session.specs.Failures.{IsRefused}
use Rattle.pgw_machine.specs.Course.{Course, Waits, Over}
use Rattle.pgw_session.specs.declared.types.SessionReport.{SessionReport}
use Rattle.pgw_session.specs.Events.{Event}
use Rattle.pgw_session.specs.Failures.{HasNoPlace, IsHopeless, IsUnfinished, Unreadable, Unsendable, WaitsAt, WaitsStill}
use Rattle.pgw_session.specs.Input.{Input}
use Rattle.pgw_session.specs.Machine.{error_of}
use Rattle.pgw_session.specs.Talk.{Talk, Ending, conversation}
use Rattle.pgw_session.specs.Transcript.{Completed}
use Rattle.pgw_dialogue.specs.declared.phase.DialoguePhase.{DialoguePhase}
use Rattle.pgw_dialogue.specs.declared.phase.DialoguePhase.TheVariants as phase
use Rattle.pgw_dialogue.specs.declared.phase.State.{State}
use Rattle.pgw_dialogue.specs.declared.phase.State.TheVariants as state

-- the bytes that are taken of those given
abbrev pub taken_of : ℕ → List ℕ → List ℕ
taken_of limit given = take limit given

-- ---- the answer, by the conversation of the bytes taken

-- where the transcript is not whole, with room for so many bytes more, and so many segments closed
abbrev pub waiting_answer : ℕ → ℕ → Result DialoguePhase ClientError
waiting_answer zero closed = Err client.ReadLimit
waiting_answer (suc room) zero = Ok phase.Waiting
waiting_answer (suc room) (suc closed) = Ok phase.Ready

-- where the conversation has ended, with this error if it has one
abbrev pub ending_answer : Option ClientError → Result DialoguePhase ClientError
ending_answer None = Ok phase.Done
ending_answer (Some e) = Err e

abbrev pub answer_at : ℕ → Course Talk Ending → Result DialoguePhase ClientError
answer_at room (Waits t sent pending) = waiting_answer room (length t.closed)
answer_at room (Over ending sent) = ending_answer (error_of ending.outcome)

-- the answer of a call behind which these bytes have been given, where no earlier one was refused
abbrev pub answer_to : Input → ℕ → List ℕ → Result DialoguePhase ClientError
answer_to input limit given =
    answer_at (limit - length given) (conversation input (taken_of limit given))

-- what is answered behind some bytes; the proofs carry it
abbrev pub answer_behind : Result Bool ClientError → ℕ → ℕ → Result DialoguePhase ClientError
answer_behind (Ok true) room closed = Ok phase.Done
answer_behind (Ok false) room closed = waiting_answer room closed
answer_behind (Err e) room closed = Err e

-- this is answered, or memory is wanting
abbrev pub IsOrLacks : Result DialoguePhase ClientError → Result DialoguePhase ClientError
    → Type 0
IsOrLacks answer result = (result ≡ answer) ⊎ (result ≡ Err client.OutOfMemory)

-- what a dialogue does with bytes behind an answer
abbrev pub state_behind : Result DialoguePhase ClientError → State
state_behind (Ok phase.Waiting) = state.Going
state_behind (Ok phase.Ready) = state.Going
state_behind (Ok phase.Done) = state.Done
state_behind (Err client.OutOfMemory) = state.Starved
state_behind (Err e) = state.Refused

-- ---- what it tells, in the terms of transcripts

-- the bytes taken end within a message of the startup segment, or of a segment behind it, and complete no transcript;
-- or they complete one
abbrev pub TellsPhase : Input → List ℕ → List ℕ → DialoguePhase → Type 0
TellsPhase input taken put phase.Waiting =
    (part : List Event) × (passed : List Backend) × WaitsAt input taken put [] part passed
    × IsUnfinished input taken
TellsPhase input taken put phase.Ready =
    (first : List Event) × (closed : List (List Event)) × (part : List Event)
    × (passed : List Backend) × WaitsAt input taken put (first ∷ closed) part passed
    × IsUnfinished input taken
TellsPhase input taken put phase.Done =
    (report : SessionReport) × Completed input taken put report

-- The cause of each error, where these bytes were given and those put out. No other error comes.
abbrev pub TakeCause : Input → ℕ → List ℕ → List ℕ → ClientError → Type 0
TakeCause input limit given put client.OutOfMemory = Unit {0}
TakeCause input limit given put client.ReadLimit =
    WaitsStill input (taken_of limit given) put × (limit ≤ length given)
TakeCause input limit given put (client.PgWireError why) =
    ((Unreadable input (taken_of limit given) put why ⊎ Unsendable input (taken_of limit given)
    put why) × IsHopeless input (taken_of limit given))
    ⊎ IsRefused input (taken_of limit given) put (client.PgWireError why)
TakeCause input limit given put (client.UnexpectedMessage m) =
    HasNoPlace input ⊥ (taken_of limit given) put m × IsHopeless input (taken_of limit given)
TakeCause input limit given put (client.RemoteError e) =
    IsRefused input (taken_of limit given) put (client.RemoteError e)
TakeCause input limit given put (client.ScramError fault) =
    IsRefused input (taken_of limit given) put (client.ScramError fault)
TakeCause input limit given put (client.UnsupportedSASLAuthMethods methods) =
    IsRefused input (taken_of limit given) put (client.UnsupportedSASLAuthMethods methods)
TakeCause input limit given put (client.InvalidConfig key) =
    IsRefused input (taken_of limit given) put (client.InvalidConfig key)
TakeCause input limit given put e = ⊥

abbrev pub Tells : Input → ℕ → List ℕ → List ℕ → Result DialoguePhase ClientError → Type 0
Tells input limit given put (Ok phase) = TellsPhase input (taken_of limit given) put phase
Tells input limit given put (Err e) = TakeCause input limit given put e
