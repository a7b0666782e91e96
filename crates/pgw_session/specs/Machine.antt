-- The machine of a session: what a message does, over what is noted. Not part of the claims of `run_session` on
-- transcripts, whose proofs it carries; those on dialogues rest on it.
use Rattle.std.specs.Prelude.{ℕ, zero, suc, Bool, true, false, List, [], ◌∷◌, slice_get, Option, Some, None, Result, Ok, Err}
use Rattle.pgw_types.specs.declared.error.PgWireError.{PgWireError}
use Rattle.pgw_frontend.specs.Frontend.{encodings}
use Rattle.pgw_backend.specs.declared.backend.PgWireBackendMessage.{PgWireBackendMessage as Backend}
use Rattle.pgw_frontend.specs.declared.frontend.PgWireFrontendMessage.{PgWireFrontendMessage as Frontend}
use Rattle.pgw_query.specs.Rows.{ErrorResponse}
use Rattle.pgw_backend.specs.declared.client_error.PgWireClientError.{PgWireClientError as ClientError}
use Rattle.pgw_backend.specs.declared.client_error.PgWireClientError.TheVariants as client
use Rattle.pgw_session.specs.declared.types.Request.{Request}
use Rattle.pgw_session.specs.declared.standing.Standing.{Standing}
use Rattle.pgw_session.specs.declared.stage.Stage.{Stage}
use Rattle.pgw_session.specs.declared.stage.Stage.TheVariants.{Starting}
use Rattle.pgw_session.specs.declared.stage.Next.{Next}
use Rattle.pgw_session.specs.declared.stage.Next.TheVariants.{Goes, Closes, Wrong, Refuses, PassesOver}
use Rattle.pgw_session.specs.Input.{Input}
use Rattle.pgw_session.specs.Requests.{sends_of}
use Rattle.pgw_session.specs.Segments.{startup_message, is_ready, sends}
use Rattle.pgw_session.specs.Table.{next_after, stage_for}
use Rattle.pgw_machine.specs.Course.{Move, On, Ends, Course, Rules, onto}
use Rattle.pgw_session.specs.Reading.{version_front}

-- What is noted of a session: how far the open segment has come, how many have closed, which message was passed over
-- first, and what was told of the connection. And what is noted where messages are sent to open a segment; where one is
-- taken, and others are sent right behind it; where one closes the segment of a request, or the startup segment; and where one is
-- passed over.
pub record Notebook (N : Type 0) : Type 0 where
  pub stage : N → Stage
  pub closed : N → ℕ
  pub first_passed : N → Option Backend
  pub standing : N → Standing
  pub opens : N → List Frontend → Stage → N
  pub takes : N → Backend → List Frontend → Stage → N
  pub closes : N → Backend → Option Request → N
  pub passes : N → Backend → N

-- how a session ends: whole; for want of an encoding of a message that is due; by a message that has no place; by a
-- refusal of the decoder; or by a message of the startup segment for which an error of its own stands
pub data Outcome : Type 0 where
  Complete : Outcome
  Unencoded : (e : PgWireError) → Outcome
  Unexpected : (m : Backend) → Outcome
  Unread : (why : PgWireError) → Outcome
  Refused : (e : ClientError) → Outcome

-- the error of an ending, if it has one
abbrev pub error_of : Outcome → Option ClientError
error_of Complete = None
error_of (Unencoded e) = Some (client.PgWireError e)
error_of (Unexpected m) = Some (client.UnexpectedMessage m)
error_of (Unread why) = Some (client.PgWireError why)
error_of (Refused e) = Some e

-- what the link's end means where a message had no place, and where an error was got
abbrev pub end_with : Option Backend → Option ErrorResponse → ClientError
end_with (Some m) error = client.UnexpectedMessage m
end_with None (Some e) = client.RemoteError e
end_with None None = client.UnexpectedEOF

pub record End (N : Type 0) : Type 0 where
  pub notes : N
  pub outcome : Outcome

-- the same end, with other notes
abbrev pub map_end : {N M : Type 0} → (N → M) → End N → End M
map_end f e = record { notes = f e.notes; outcome = e.outcome }

abbrev pub stopped : {N : Type 0} → N → Outcome → Move N (End N)
stopped notes outcome = Ends (record { notes = notes; outcome = outcome }) []

-- messages fall due: from one state to the next, if they can be encoded
abbrev pub sending : {N : Type 0} → N → N → Result (List ℕ) PgWireError → Move N (End N)
sending before behind (Err e) = stopped before (Unencoded e)
sending before behind (Ok bytes) = On behind bytes

-- the request whose segment is open behind so many; the startup segment is of none
abbrev pub open_request : Input → ℕ → Option Request
open_request input zero = None
open_request input (suc k) = slice_get input.requests k

-- the next request is opened; where there is none, the session is whole
abbrev pub opens_next : {N : Type 0} → Notebook N → N → Option Request → Move N (End N)
opens_next book n None = stopped n Complete
opens_next book n (Some q) =
    sending n (book.opens n (sends_of q) (stage_for q)) (encodings (sends_of q))

abbrev pub moves_by : {N : Type 0} → Notebook N → Input → N → Backend → Next → Move N (End N)
moves_by book input n m (Goes stage reply) =
    sending (book.takes n m [] stage) (book.takes n m (sends reply) stage)
    (encodings (sends reply))
moves_by book input n m Closes =
    opens_next book (book.closes n m (open_request input (book.closed n)))
    (slice_get input.requests (book.closed n))
moves_by book input n m Wrong = stopped n (Unexpected m)
moves_by book input n m (Refuses e) = stopped n (Refused e)
moves_by book input n m PassesOver = On (book.passes n m) []

-- behind a message that has no place, all are taken up to ReadyForQuery
abbrev pub passes_by : {N : Type 0} → Notebook N → N → Backend → Backend → Bool → Move N (End N)
passes_by book n first m true = stopped n (Unexpected first)
passes_by book n first m false = On (book.passes n m) []

abbrev pub turn_by : {N : Type 0} → Notebook N → Input → N → Backend → Option Backend
    → Move N (End N)
turn_by book input n m None = moves_by book input n m (next_after input (book.stage n) m)
turn_by book input n m (Some first) = passes_by book n first m (is_ready m)

abbrev pub rules_by : {N : Type 0} → Notebook N → Input → Rules N (End N) Backend PgWireError
rules_by book input = record {
  read = λ n bytes. version_front (book.standing n).version bytes;
  step = λ n m. turn_by book input n m (book.first_passed n);
  bad = λ n why. record { notes = n; outcome = Unread why };
}

-- before the first byte: the startup message is sent
abbrev pub beginning_by : {N : Type 0} → Notebook N → Input → N → Course N (End N)
beginning_by book input n =
    onto [] (sending n (book.opens n (startup_message input ∷ []) Starting)
    (encodings (startup_message input ∷ [])))
