-- What the calls over a link leave. Of the clauses of `run_session` only `session` cites it, and none on transcripts; the
-- claims on dialogues rest on it.
use Rattle.std.specs.Prelude.{◌≡◌, ◌⊎◌, ◌<◌, ◌≤◌, ℕ, ◌+◌, List, [], ◌∷◌, ◌++◌, length, take, Some, Result, Ok, Err, IsErrOf, true, false, Bool}
use Rattle.pgw_backend.specs.Front.{front, More}
use Rattle.pgw_link.specs.Tape.{Tape, Took, LinkFails}
use Rattle.pgw_link.specs.Sending.{ReadsNothing}
use Rattle.pgw_backend.specs.declared.client_error.PgWireClientError.{PgWireClientError as ClientError}
use Rattle.pgw_backend.specs.declared.client_error.PgWireClientError.TheVariants as client
use Rattle.pgw_machine.specs.Course.{Begins, Course, Waits, CourseWaits, Over, sent_of}
use Rattle.pgw_session.specs.declared.types.SessionReport.{SessionReport}
use Rattle.pgw_session.specs.declared.notes.Notes.{Notes}
use Rattle.pgw_session.specs.Input.{Input}
use Rattle.pgw_session.specs.Transcript.{report_of}
use Rattle.pgw_session.specs.Machine.{End, Complete, error_of}
use Rattle.pgw_session.specs.Talk.{Talk, Ending, conversation}
use Rattle.pgw_dialogue.specs.Machine.{NotesCourse, IsWholeEnd, notes_end, report_at, runs, talk_end}
use Rattle.pgw_client.specs.Session.{HasEnded, LeavesFlushed}

-- ---- single calls

-- why a read into a buffer failed: the link's, and nothing moved, or its bytes could not be kept
abbrev pub FillFails : Tape → Tape → ℕ → ClientError → Type 0
FillFails old new room e =
    ((e ≡ client.IoError) × LinkFails old new (old.reads + 1) old.writes)
    ⊎ ((e ≡ client.OutOfMemory) × (piece : List ℕ) × (length piece ≤ room) × Took old new
    piece)

abbrev pub Filled : Tape → Tape → List ℕ → List ℕ → ℕ → Result ℕ ClientError → Type 0
Filled old new was now room (Ok n) =
    (piece : List ℕ) × (length piece ≡ n) × Took old new piece × (now ≡ was ++ piece)
Filled old new was now room (Err e) = FillFails old new room e

-- ---- why a call ends with an error

-- Why a call that reads nothing did; before is how many bytes were written before what `sent_of` counts.
pub data Stopping {N : Type 0} (course : Course N (End N)) (sent : List ℕ) (before : ℕ)
    (new : Tape) (e : ClientError) : Type 0 where
  memory : e ≡ client.OutOfMemory → Stopping course sent before new e
  unsent : e ≡ client.IoError → new.flushed < before + length (sent_of course)
      → Stopping course sent before new e
  stopped : (end : End N) → course ≡ Over end sent → error_of end.outcome ≡ Some e
      → Stopping course sent before new e

-- Why a session did, where these bytes were taken; `means` says what the link's end means.
pub data Reason {N : Type 0} (means : N → ClientError) (course : Course N (End N)) (sent : List ℕ)
    (before : ℕ) (taken : List ℕ) (limit : ℕ) (old new : Tape) (e : ClientError) : Type 0 where
  failed : Stopping course sent before new e
      → Reason means course sent before taken limit old new e
  unread : e ≡ client.IoError → CourseWaits course sent
      → Reason means course sent before taken limit old new e
  at_limit : e ≡ client.ReadLimit → CourseWaits course sent → length taken ≡ limit
      → Reason means course sent before taken limit old new e
  at_end : (state : N) → (pending : List ℕ) → course ≡ Waits state sent pending
      → HasEnded limit taken old new → e ≡ means state
      → Reason means course sent before taken limit old new e

-- the end was not answered; or it was once, all had been flushed, and the course waits
abbrev pub Paused : {S R : Type 0} → Course S R → List ℕ → Tape → Tape → Type 0
Paused course sent old new =
    (new.ended ≡ old.ended)
    ⊎ ((new.ended ≡ old.ended ++ length new.wrote ∷ []) × CourseWaits course sent)

-- ---- the messages at a buffer's front

-- where the course has come, once they were taken
abbrev pub SessionCameTo : Input → NotesCourse → Notes → List ℕ → List ℕ → Bool → Type 0
SessionCameTo input course notes wrote rest true =
    (end : End Notes) × (course ≡ Over end wrote) × IsWholeEnd end (report_at notes)
SessionCameTo input course notes wrote rest false =
    (course ≡ runs input notes wrote rest) × (front notes.standing.version rest ≡ More)

pub record ClientSettles (input : Input) (course : NotesCourse) (notes : Notes) (old new : Tape)
    (rest : List ℕ) (done : Bool) : Type 0 where
  pub reads_nothing : ReadsNothing old new
  pub came : SessionCameTo input course notes new.wrote rest done
  pub flushed : new.flushed ≡ length new.wrote
  pub no_shorter : length old.wrote ≤ length new.wrote
  pub writes : new.writes + length old.wrote ≤ old.writes + length new.wrote

pub record Broke (course : NotesCourse) (old new : Tape) (e : ClientError) : Type 0 where
  pub reads_nothing : ReadsNothing old new
  pub begins : Begins course new.wrote
  pub stopping : Stopping course new.wrote 0 new e
  pub flushed : (e ≡ client.IoError → ⊥) → new.flushed ≡ length new.wrote
  pub no_shorter : length old.wrote ≤ length new.wrote
  pub writes : new.writes + length old.wrote ≤ old.writes + length new.wrote + 1

-- what taking them all leaves
abbrev pub TookAll : Input → Notes → Notes → Tape → Tape → List ℕ → List ℕ
    → Result Bool ClientError → Type 0
TookAll input old_notes notes old new old_buffer buffer (Ok done) =
    ClientSettles input (runs input old_notes old.wrote old_buffer) notes old new buffer done
TookAll input old_notes notes old new old_buffer buffer (Err e) =
    Broke (runs input old_notes old.wrote old_buffer) old new e

-- on the way there: what is left in the buffer does the rest
pub record ClientGoesOn (input : Input) (old_notes notes : Notes) (old new : Tape)
    (old_buffer buffer : List ℕ) : Type 0 where
  pub reads_nothing : ReadsNothing old new
  pub course : runs input old_notes old.wrote old_buffer ≡ runs input notes new.wrote buffer
  pub flushed : new.flushed ≡ length new.wrote
  pub no_shorter : length old.wrote ≤ length new.wrote
  pub writes : new.writes + length old.wrote ≤ old.writes + length new.wrote

-- ---- a session

-- before a read: the bytes taken, of which those in the buffer do the rest
pub record Reading (input : Input) (old_notes notes : Notes) (old new : Tape) (buffer : List ℕ)
    (count : ℕ) : Type 0 where
  pub taken : List ℕ
  pub counts : length taken ≡ count
  pub took : new.took ≡ old.took ++ taken
  pub course : runs input old_notes old.wrote taken ≡ runs input notes new.wrote buffer
  pub flushed : new.flushed ≡ length new.wrote
  pub reads : new.reads ≤ old.reads + length taken
  pub no_shorter : length old.wrote ≤ length new.wrote
  pub writes : new.writes + length old.wrote ≤ old.writes + length new.wrote
  pub not_ended : new.ended ≡ old.ended

-- why a session ended with an error
pub record SessionReason (course : NotesCourse) (taken : List ℕ) (limit : ℕ) (old new : Tape)
    (e : ClientError) : Type 0 where
  pub begins : Begins course new.wrote
  pub reason : Reason notes_end course new.wrote 0 taken limit old new e

abbrev pub SessionAnswers : NotesCourse → Notes → List ℕ → ℕ → Tape → Tape
    → Result Unit ClientError → Type 0
SessionAnswers course notes taken limit old new (Ok done) =
    (end : End Notes) × (course ≡ Over end new.wrote) × IsWholeEnd end (report_at notes)
SessionAnswers course notes taken limit old new (Err e) =
    SessionReason course taken limit old new e

-- a session over a link, from its first read on
pub record Conversed (input : Input) (old_notes notes : Notes) (limit : ℕ) (old new : Tape)
    (result : Result Unit ClientError) : Type 0 where
  pub taken : List ℕ
  pub took : new.took ≡ old.took ++ taken
  pub within : length taken ≤ limit
  pub answered : SessionAnswers (runs input old_notes old.wrote taken) notes taken limit old new
      result
  pub flushed : (IsErrOf result client.IoError → ⊥) → new.flushed ≡ length new.wrote
  pub reads : new.reads ≤ old.reads + length taken + 1
  pub no_shorter : length old.wrote ≤ length new.wrote
  pub writes : new.writes + length old.wrote ≤ old.writes + length new.wrote + 1
  pub paused : Paused (runs input old_notes old.wrote taken) new.wrote old new

-- why a session ended with an error, by the conversation of the bytes taken
pub record Caused (conv : Course Talk Ending) (taken : List ℕ) (limit : ℕ) (sent : List ℕ)
    (old new : Tape) (e : ClientError) : Type 0 where
  pub begins : Begins conv sent
  pub reason : Reason talk_end conv sent (length old.wrote) taken limit old new e

abbrev pub HoldsClientSession : Input → Course Talk Ending → List ℕ → ℕ → List ℕ → Tape → Tape
    → Result SessionReport ClientError → Type 0
HoldsClientSession input conv taken limit sent old new (Ok report) =
    (talk : Talk) × (conv ≡ Over (record { notes = talk; outcome = Complete }) sent)
    × (report ≡ report_of input talk.closed)
HoldsClientSession input conv taken limit sent old new (Err e) =
    Caused conv taken limit sent old new e

-- what a session over a link leaves, whatever it answers: it took bytes and wrote others, as the conversation says
pub record LinkSession (input : Input) (limit : ℕ) (old new : Tape)
    (result : Result SessionReport ClientError) : Type 0 where
  pub taken : List ℕ
  pub took : new.took ≡ old.took ++ taken
  pub within : length taken ≤ limit
  pub sent : List ℕ
  pub wrote : new.wrote ≡ old.wrote ++ sent
  pub held : HoldsClientSession input (conversation input taken) taken limit sent old new result
  pub reads : new.reads ≤ old.reads + length taken + 1
  pub writes : new.writes ≤ old.writes + length sent + 1
  pub paused : Paused (conversation input taken) sent old new
  pub flushed : LeavesFlushed old new result
