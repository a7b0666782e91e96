-- A query that is asked, and what is printed of its answer.
use Rattle.std.specs.Prelude.{◌≡◌, ◌<◌, ◌+◌, ◌*◌, ℕ, List, [], ◌∷◌, ◌++◌, length, Bool, true, false}
use Rattle.std.specs.Prelude.{None}
use Rattle.std.specs.List.{All}
use Rattle.pgw_prog_output.specs.declared.printer.RowFormat.{RowFormat}
use Rattle.pgw_backend.specs.declared.backend.PgWireBackendMessage.{PgWireBackendMessage as Backend}
use Rattle.pgw_backend.specs.declared.client_error.PgWireClientError.{PgWireClientError as ClientError}
use Rattle.pgw_backend.specs.declared.client_error.PgWireClientError.TheVariants as client
use Rattle.pgw_prog_output.specs.declared.said.Said.{Said}
use Rattle.pgw_prog_output.specs.declared.said.Turn.{Turn}
use Rattle.pgw_prog_output.specs.declared.said.Turn.TheVariants as turn
use Rattle.pgw_prog_output.specs.declared.asking.Halt.{Halt}
use Rattle.pgw_prog_output.specs.declared.asking.Halt.TheVariants as halt
use Rattle.pgw_prog_output.specs.declared.asking.AnswerEnd.{AnswerEnd}
use Rattle.pgw_prog_output.specs.declared.asking.AnswerEnd.TheVariants as ends
use Rattle.pgw_prog_output.specs.Said.{said_all, said_turn}
use Rattle.pgw_prog_output.specs.Answers.{answer_text, columns_open}
use Rattle.pgw_prog_output.specs.Lines.{ServerLine, Stand, LineBytesCame, Calm, AsksQuery, QueryNotAsked, IsLost}
use Rattle.pgw_types.specs.Counts.{Rose}
use Rattle.pgw_prog_output.specs.Pages.{Sheet, PrintsHeard, IsFront, HasStopped, failed_behind}

-- the answer goes on behind each of these
abbrev pub AnswerGoesOn : List Said → Type 0
AnswerGoesOn saids = All (λ s. said_turn s ≡ turn.GoesOn) saids

-- it goes on up to the last one, whose turn is this
pub record AnswerEndsBy (t : Turn) (saids : List Said) : Type 0 where
  pub front : List Said
  pub last : Said
  pub is : saids ≡ front ++ last ∷ []
  pub goes_on : AnswerGoesOn front
  pub ends : said_turn last ≡ t

-- an error of the server is among them
abbrev pub has_failed : List Said → Bool
has_failed saids = failed_behind false saids

-- ---- a part of an answer, for private clauses

-- what was heard where hearing halts so
abbrev pub HaltsAt : Halt → List Said → Type 0
HaltsAt halt.GoesOn saids = AnswerGoesOn saids
HaltsAt halt.Lost saids = AnswerGoesOn saids
HaltsAt halt.Ready saids = AnswerEndsBy turn.Ready saids
HaltsAt halt.Misplaced saids = AnswerEndsBy turn.Misplaced saids
HaltsAt (halt.Stopped why) saids = Unit {0}

-- the bytes that were not taken, and that hearing may go on, or why it cannot
abbrev pub LeavesAtHalt : Halt → ServerLine → ServerLine → List ℕ → Type 0
LeavesAtHalt halt.GoesOn old new rest = (rest ≡ new.buffer) × Calm old new
LeavesAtHalt halt.Ready old new rest = (rest ≡ new.buffer) × Calm old new
LeavesAtHalt halt.Misplaced old new rest = (rest ≡ new.buffer) × Calm old new
LeavesAtHalt halt.Lost old new rest = (rest ≡ new.buffer) × IsLost old new
LeavesAtHalt (halt.Stopped why) old new rest = Unit {0}

-- what was printed of them: all, but a front where printing stopped
abbrev pub PrintsAtHalt : Halt → List Said → Sheet → Sheet → Type 0
PrintsAtHalt (halt.Stopped why) saids old new = IsFront saids old new.wrote
PrintsAtHalt halt.GoesOn saids old new = PrintsHeard saids old new
PrintsAtHalt halt.Ready saids old new = PrintsHeard saids old new
PrintsAtHalt halt.Misplaced saids old new = PrintsHeard saids old new
PrintsAtHalt halt.Lost saids old new = PrintsHeard saids old new

-- what messages are behind those that were heard
abbrev pub said_at : Sheet → List Backend → List Said
said_at s messages = said_all (columns_open s.answer) messages

-- messages were heard that stand in the bytes that were not taken and in those that came
pub record HearsAnswers (old new : ServerLine) (before after : Sheet) (why : Halt) : Type 0 where
  pub messages : List Backend
  pub bytes : List ℕ
  pub rest : List ℕ
  pub came : LineBytesCame bytes old new
  pub stand : Stand old.version (old.buffer ++ bytes) messages rest
  pub leaves : LeavesAtHalt why old new rest
  pub halts : HaltsAt why (said_at before messages)
  pub prints : PrintsAtHalt why (said_at before messages) before after

-- ---- an answer

-- how it ended: with ReadyForQuery, behind no error of the server or behind one; with a message
-- that has no place; before that; or printing stopped
abbrev pub IsAnswerEnd : AnswerEnd → List Said → Type 0
IsAnswerEnd ends.Well saids = AnswerEndsBy turn.Ready saids × (has_failed saids ≡ false)
IsAnswerEnd ends.Failed saids = AnswerEndsBy turn.Ready saids × (has_failed saids ≡ true)
IsAnswerEnd ends.Misplaced saids = AnswerEndsBy turn.Misplaced saids
IsAnswerEnd ends.Lost saids = AnswerGoesOn saids
IsAnswerEnd ends.NoOutput saids = Unit {0}
IsAnswerEnd ends.NoMemory saids = Unit {0}

-- what stands behind its messages was not taken; and why no more of them are heard, where it was
-- lost
abbrev pub AnswerLeaves : AnswerEnd → ServerLine → ServerLine → List ℕ → Type 0
AnswerLeaves ends.Well old new rest = (rest ≡ new.buffer) × Calm old new
AnswerLeaves ends.Failed old new rest = (rest ≡ new.buffer) × Calm old new
AnswerLeaves ends.Misplaced old new rest = (rest ≡ new.buffer) × Calm old new
AnswerLeaves ends.Lost old new rest = (rest ≡ new.buffer) × IsLost old new
AnswerLeaves ends.NoOutput old new rest = Unit {0}
AnswerLeaves ends.NoMemory old new rest = Unit {0}

-- all of the text was written, but a front of it where printing stopped
abbrev pub WrittenAt : AnswerEnd → List ℕ → List ℕ → Type 0
WrittenAt ends.NoOutput wrote text = (rest : List ℕ) × (wrote ++ rest ≡ text)
WrittenAt ends.NoMemory wrote text = (rest : List ℕ) × (wrote ++ rest ≡ text)
WrittenAt ends.Well wrote text = wrote ≡ text
WrittenAt ends.Failed wrote text = wrote ≡ text
WrittenAt ends.Misplaced wrote text = wrote ≡ text
WrittenAt ends.Lost wrote text = wrote ≡ text

-- An answer was printed: the messages that stood at the front of the bytes that were not taken and
-- of those that came, and the text of their results.
pub record WritesAnswer (f : RowFormat) (old new : ServerLine) (before after : List ℕ)
    (how : AnswerEnd)
    : Type 0 where
  pub messages : List Backend
  pub bytes : List ℕ
  pub rest : List ℕ
  pub came : LineBytesCame bytes old new
  pub stand : Stand old.version (old.buffer ++ bytes) messages rest
  pub leaves : AnswerLeaves how old new rest
  pub ends : IsAnswerEnd how (said_all None messages)
  pub written : WrittenAt how after (before ++ answer_text f (said_all None messages))

-- A query was asked and its answer printed; or it could not be sent, for this cause, of which one is
-- want of memory, and nothing was printed.
pub data AsksAndPrints (f : RowFormat) (query : List ℕ) (old new : ServerLine)
    (before after : List ℕ)
    : AnswerEnd → Type 0 where
  unsent : (e : ClientError) → QueryNotAsked query old new e → (e ≡ client.OutOfMemory → ⊥)
      → after ≡ before → AsksAndPrints f query old new before after ends.Lost
  starved : QueryNotAsked query old new client.OutOfMemory → after ≡ before
      → AsksAndPrints f query old new before after ends.NoMemory
  asked : (how : AnswerEnd) (sent : ServerLine) → AsksQuery query old sent
      → WritesAnswer f sent new before after how → AsksAndPrints f query old new before after how

-- Queries were asked in turn, up to the first whose answer did not end well.
pub data AskedAll (f : RowFormat)
    : List (List ℕ) → ServerLine → ServerLine → List ℕ → List ℕ → AnswerEnd → Type 0 where
  none : (l : ServerLine) (wrote : List ℕ) → AskedAll f [] l l wrote wrote ends.Well
  next : (query : List ℕ) (more : List (List ℕ)) (how : AnswerEnd) (old mid new : ServerLine)
      (before between after : List ℕ) → AsksAndPrints f query old mid before between ends.Well
      → AskedAll f more mid new between after how
      → AskedAll f (query ∷ more) old new before after how
  last : (query : List ℕ) (more : List (List ℕ)) (how : AnswerEnd) (old new : ServerLine)
      (before after : List ℕ) → (how ≡ ends.Well → ⊥)
      → AsksAndPrints f query old new before after how
      → AskedAll f (query ∷ more) old new before after how

-- ---- counts

-- a write failed where the count of the sink's faults rose, and nowhere else
abbrev pub CountsEnd : ℕ → ℕ → AnswerEnd → Type 0
CountsEnd before now ends.NoOutput = Rose before now
CountsEnd before now ends.NoMemory = now ≡ before
CountsEnd before now ends.Well = now ≡ before
CountsEnd before now ends.Failed = now ≡ before
CountsEnd before now ends.Misplaced = now ≡ before
CountsEnd before now ends.Lost = now ≡ before

-- as CountsEnd, of a part, for private clauses
abbrev pub CountsHalt : ℕ → ℕ → Halt → Type 0
CountsHalt before now (halt.Stopped why) = HasStopped before now why
CountsHalt before now halt.GoesOn = now ≡ before
CountsHalt before now halt.Ready = now ≡ before
CountsHalt before now halt.Misplaced = now ≡ before
CountsHalt before now halt.Lost = now ≡ before

-- how much there is to hear at most
abbrev pub hearing_weight : ServerLine → ℕ
hearing_weight l = 2 * l.left + length l.buffer

abbrev pub Falls : ServerLine → ServerLine → Halt → Type 0
Falls old new why = why ≡ halt.GoesOn → hearing_weight new < hearing_weight old
