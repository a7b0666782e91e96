-- What taking the messages at the front did. The proofs carry it, and no public clause cites it.
use Rattle.std.specs.Prelude.{◌≡◌, List, ℕ, ◌++◌, Bool, true, false, Some, Result, Ok, Err}
use Rattle.pgw_backend.specs.declared.client_error.PgWireClientError.{PgWireClientError as ClientError}
use Rattle.pgw_dialogue.specs.Machine.{NotesCourse, IsWholeEnd, report_at, runs}
use Rattle.pgw_machine.specs.Course.{Begins}
use Rattle.pgw_dialogue.specs.Wire.{Unless}
use Rattle.pgw_machine.specs.Course.{Waits, Over}
use Rattle.pgw_session.specs.declared.notes.Notes.{Notes}
use Rattle.pgw_session.specs.Input.{Input}
use Rattle.pgw_session.specs.Machine.{End, error_of}

-- a refusal: all was put out before it, and it has its cause
pub record Stopped (course : NotesCourse) (put : List ℕ) (e : ClientError) : Type 0 where
  pub begins : Begins course put
  pub cause : Unless e ((end : End Notes) × (course ≡ Over end put)
      × (error_of end.outcome ≡ Some e))

-- where the course has come, with all that was put out
abbrev pub DialogueCameTo : NotesCourse → Notes → List ℕ → List ℕ → Result Bool ClientError
    → Type 0
DialogueCameTo course notes inbox put (Ok true) =
    (end : End Notes) × (course ≡ Over end put) × IsWholeEnd end (report_at notes)
DialogueCameTo course notes inbox put (Ok false) = course ≡ Waits notes put inbox
DialogueCameTo course notes inbox put (Err e) = Stopped course put e

-- whatever was put out before
abbrev pub TookInbox : Input → Notes → Notes → List ℕ → List ℕ → List ℕ → List ℕ
    → Result Bool ClientError → Type 0
TookInbox input old new old_inbox new_inbox old_out new_out result =
    (out : List ℕ) × (new_out ≡ old_out ++ out)
    × ((sent : List ℕ) → DialogueCameTo (runs input old sent old_inbox) new new_inbox
    (sent ++ out) result)

-- on the way there: what is left at the front does the rest
abbrev pub InboxGoesOn : Input → Notes → Notes → List ℕ → List ℕ → List ℕ → List ℕ → Type 0
InboxGoesOn input old notes old_inbox inbox old_out now_out =
    (out : List ℕ) × (now_out ≡ old_out ++ out)
    × ((sent : List ℕ) → runs input old sent old_inbox ≡ runs input notes (sent ++ out) inbox)
