-- What taking the messages of the open segment does, by the machine of a session.
use Rattle.std.specs.Prelude.{◌≡◌, ℕ, List, [], ◌++◌, drop, Bool, true, false, Some, Result, Ok, Err}
use Rattle.pgw_backend.specs.Front.{front, More, Whole}
use Rattle.pgw_backend.specs.declared.backend.PgWireBackendMessage.{PgWireBackendMessage as Backend}
use Rattle.pgw_backend.specs.declared.client_error.PgWireClientError.{PgWireClientError as ClientError}
use Rattle.pgw_machine.specs.Course.{Ends, Waits, Over}
use Rattle.pgw_session.specs.declared.notes.Notes.{Notes}
use Rattle.pgw_session.specs.Input.{Input}
use Rattle.pgw_session.specs.Machine.{End, error_of, turn_by}
use Rattle.pgw_session.specs.Notes.{notes_book}
use Rattle.pgw_dialogue.specs.Machine.{runs, whole_end}
use Rattle.pgw_dialogue.specs.Wire.{Unless}

-- the front of the inbox alone led there, and this was put out
pub record InboxLeadsTo (input : Input) (old notes : Notes) (inbox left old_out new_out : List ℕ)
    :
    Type 0 where
  pub taken : List ℕ
  pub cut : inbox ≡ taken ++ left
  pub out : List ℕ
  pub puts : new_out ≡ old_out ++ out
  pub leads : (sent : List ℕ) → runs input old sent taken ≡ Waits notes (sent ++ out) []

-- What stands at the front then: no whole message; the message that closes the segment, which is taken; or what the
-- conversation ends with.
abbrev pub PushStopsAtFront : Input → Notes → List ℕ → Notes → List ℕ → Result Bool ClientError
    → Type 0
PushStopsAtFront input notes left new rest (Ok false) =
    (new ≡ notes) × (rest ≡ left) × (front notes.standing.version left ≡ More)
PushStopsAtFront input notes left new rest (Ok true) =
    (m : Backend) × (len : ℕ) × (front notes.standing.version left ≡ Whole m len)
    × (rest ≡ drop len left)
    × (turn_by notes_book input notes m notes.first_passed ≡ Ends (whole_end new) [])
PushStopsAtFront input notes left new rest (Err e) =
    Unless e ((end : End Notes) × (error_of end.outcome ≡ Some e) ×
    ((sent : List ℕ) → runs input notes sent left ≡ Over end sent))

pub record Serves (input : Input) (old new : Notes) (inbox rest old_out new_out : List ℕ)
    (result : Result Bool ClientError) : Type 0 where
  pub notes : Notes
  pub left : List ℕ
  pub way : InboxLeadsTo input old notes inbox left old_out new_out
  pub stops : PushStopsAtFront input notes left new rest result
