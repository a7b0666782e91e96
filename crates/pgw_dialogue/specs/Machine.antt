-- What the code's steps answer, by the machine of a session. No clause of `run_session` on transcripts cites it; the
-- claims on dialogues rest on it.
use Rattle.std.specs.Prelude.{◌≡◌, ◌<◌, ℕ, suc, List, [], ◌++◌, drop, true, false, Bool, Some, Result, Ok, Err}
use Rattle.pgw_backend.specs.Front.{front, More, Whole}
use Rattle.pgw_backend.specs.declared.backend.PgWireBackendMessage.{PgWireBackendMessage as Backend}
use Rattle.pgw_backend.specs.declared.client_error.PgWireClientError.{PgWireClientError as ClientError}
use Rattle.pgw_backend.specs.declared.client_error.PgWireClientError.TheVariants as client
use Rattle.pgw_machine.specs.Course.{Move, On, Ends, Course, Waits, Over, run}
use Rattle.pgw_session.specs.declared.types.SessionReport.{SessionReport}
use Rattle.pgw_session.specs.declared.notes.Notes.{Notes}
use Rattle.pgw_session.specs.declared.stage.Next.{Next}
use Rattle.pgw_session.specs.declared.stage.Next.TheVariants.{Refuses}
use Rattle.pgw_session.specs.Input.{Input}
use Rattle.pgw_session.specs.Segments.{is_ready}
use Rattle.pgw_session.specs.Standings.{standing_by}
use Rattle.pgw_session.specs.Answers.{tally_of}
use Rattle.pgw_session.specs.Talk.{Talk, first_passed}
use Rattle.pgw_session.specs.Transcript.{report_with}
use Rattle.pgw_session.specs.Machine.{End, Complete, error_of, end_with, beginning_by, rules_by, turn_by}
use Rattle.pgw_session.specs.Notes.{notes_book, first_notes}
use Rattle.pgw_dialogue.specs.declared.machine.Progress.{Progress}
use Rattle.pgw_dialogue.specs.declared.machine.Progress.TheVariants as progress
use Rattle.pgw_dialogue.specs.Wire.{IsOwn, Unless}

abbrev pub NotesMove : Type 0
NotesMove = Move Notes (End Notes)

abbrev pub NotesCourse : Type 0
NotesCourse = Course Notes (End Notes)

-- what is reported of the notes
abbrev pub report_at : Notes → SessionReport
report_at notes = report_with notes.standing notes.answers

-- what the link's end means
abbrev pub notes_end : Notes → ClientError
notes_end notes = end_with notes.first_passed notes.tally.remote

-- what the link's end means in a conversation
abbrev pub talk_end : Talk → ClientError
talk_end t = end_with (first_passed t.passed) (tally_of t.open_events).remote

-- the course of some bytes, with these notes and what was written before
abbrev pub runs : Input → Notes → List ℕ → List ℕ → NotesCourse
runs input notes wrote bytes = run (rules_by notes_book input) (Waits notes wrote []) bytes

-- the machine ends with this error, or whole, with this report
abbrev pub StopsBy : NotesMove → ClientError → Type 0
StopsBy move e = (end : End Notes) × (move ≡ Ends end []) × (error_of end.outcome ≡ Some e)

pub record IsWholeEnd (end : End Notes) (report : SessionReport) : Type 0 where
  pub outcome : end.outcome ≡ Complete
  pub reported : report_at end.notes ≡ report

-- what the table may say: an error of the messages is refused
abbrev pub IsGood : Next → Type 0
IsGood (Refuses e) = IsOwn e
IsGood n = Unit {0}

-- The end of a whole session behind which these are the notes. Its last segment counts as closed; the notes count one
-- once the next is opened.
abbrev pub whole_end : Notes → End Notes
whole_end notes =
    record { notes = record notes { closed = suc notes.closed }; outcome = Complete }

-- what taking a message answers
abbrev pub AnswersMove : NotesMove → Notes → List ℕ → List ℕ → Result Bool ClientError → Type 0
AnswersMove move new old_out new_out (Ok true) =
    (move ≡ Ends (whole_end new) []) × (new_out ≡ old_out)
AnswersMove move new old_out new_out (Ok false) =
    (bytes : List ℕ) × (move ≡ On new bytes) × (new_out ≡ old_out ++ bytes)
AnswersMove move new old_out new_out (Err e) = (new_out ≡ old_out) × Unless e (StopsBy move e)

-- what passing a message over answers
abbrev pub DialoguePasses : Notes → Notes → Backend → Backend → Result Bool ClientError → Type 0
DialoguePasses old new first m (Ok over) =
    (over ≡ false) × (is_ready m ≡ false)
    × (new ≡ record old { standing = standing_by old.standing m; first_passed = Some first })
DialoguePasses old new first m (Err e) =
    Unless e ((is_ready m ≡ true) × (e ≡ client.UnexpectedMessage first))

-- what putting the startup message out answers, behind what was written before
abbrev pub StartsRun : Input → List ℕ → Result Notes ClientError → Type 0
StartsRun input out (Ok notes) =
    beginning_by notes_book input (first_notes input) ≡ Waits notes out []
StartsRun input out (Err e) =
    (out ≡ [])
    × Unless e ((end : End Notes) ×
    (beginning_by notes_book input (first_notes input) ≡ Over end [])
    × (error_of end.outcome ≡ Some e))

-- what taking the message at the front of the buffer does to the whole run
abbrev pub AdvancesRun : Input → Notes → Notes → List ℕ → List ℕ → List ℕ → List ℕ
    → Result Progress ClientError → Type 0
AdvancesRun input old new old_buffer new_buffer old_out new_out (Ok progress.More) =
    (new ≡ old) × (new_out ≡ old_out) × (new_buffer ≡ old_buffer)
    × (front old.standing.version old_buffer ≡ More)
AdvancesRun input old new old_buffer new_buffer old_out new_out (Ok progress.Went) =
    (out : List ℕ) × (new_out ≡ old_out ++ out)
    × ((sent : List ℕ) → runs input old sent old_buffer ≡ runs input new (sent ++ out)
    new_buffer)
AdvancesRun input old new old_buffer new_buffer old_out new_out (Ok progress.Done) =
    (end : End Notes) × IsWholeEnd end (report_at new) × (new_out ≡ old_out)
    × ((sent : List ℕ) → runs input old sent old_buffer ≡ Over end sent)
AdvancesRun input old new old_buffer new_buffer old_out new_out (Err e) =
    (new_out ≡ old_out)
    × Unless e ((end : End Notes) × (error_of end.outcome ≡ Some e) ×
    ((sent : List ℕ) → runs input old sent old_buffer ≡ Over end sent))

-- What was taken is the front of the buffer. Where the session goes on, it alone leads there; where the session is whole,
-- it is the message that ended it.
abbrev pub CutsFront : Input → Notes → Notes → List ℕ → List ℕ → List ℕ → List ℕ
    → Result Progress ClientError → Type 0
CutsFront input old new old_buffer new_buffer old_out new_out (Ok progress.Went) =
    (taken out : List ℕ) × (old_buffer ≡ taken ++ new_buffer) × (new_out ≡ old_out ++ out)
    × ((sent : List ℕ) → runs input old sent taken ≡ Waits new (sent ++ out) [])
CutsFront input old new old_buffer new_buffer old_out new_out (Ok progress.Done) =
    (m : Backend) × (len : ℕ) × (front old.standing.version old_buffer ≡ Whole m len)
    × (new_buffer ≡ drop len old_buffer)
    × (turn_by notes_book input old m old.first_passed ≡ Ends (whole_end new) [])
CutsFront input old new old_buffer new_buffer old_out new_out result = Unit {0}

-- a message that was taken is gone from the buffer
abbrev pub Shortens : Progress → ℕ → ℕ → Type 0
Shortens progress.More old new = Unit {0}
Shortens progress.Went old new = new < old
Shortens progress.Done old new = Unit {0}
