-- What the calls of a client promise.
use Rattle.std.specs.Prelude.{◌≡◌, ◌⊎◌, ◌<◌, ℕ, List, [], ◌∷◌, ◌++◌, Some, Result, Ok, Err, Bool}
use Rattle.pgw_types.specs.declared.error.PgWireError.{PgWireError}
use Rattle.pgw_backend.specs.declared.client_error.PgWireClientError.{PgWireClientError as ClientError}
use Rattle.pgw_backend.specs.declared.client_error.PgWireClientError.TheVariants as client
use Rattle.pgw_frontend.specs.Frontend.{encodings}
use Rattle.pgw_session.specs.declared.notes.Notes.{Notes}
use Rattle.pgw_session.specs.declared.types.Answer.{Answer}
use Rattle.pgw_session.specs.declared.types.Request.{Request}
use Rattle.pgw_session.specs.declared.types.SessionReport.{SessionReport}
use Rattle.pgw_session.specs.Input.{Input}
use Rattle.pgw_session.specs.Requests.{sends_of}
use Rattle.pgw_session.specs.Segments.{startup_message}
use Rattle.pgw_session.specs.Table.{stage_for}
use Rattle.pgw_session.specs.Transcript.{Completed}
use Rattle.pgw_dialogue.specs.declared.phase.DialoguePhase.{DialoguePhase}
use Rattle.pgw_dialogue.specs.declared.phase.DialoguePhase.TheVariants as phase
use Rattle.pgw_dialogue.specs.Answers.{answer_behind}
use Rattle.pgw_dialogue.specs.Dialogue.{AnswersDialogue, StartCause}
use Rattle.pgw_dialogue.specs.Machine.{StartsRun}
use Rattle.pgw_client_push.specs.declared.client.PushClient.{PushClient}
use Rattle.pgw_client_push.specs.declared.state.State.TheVariants as state
use Rattle.pgw_client_push.specs.Serving.{Serves}
use Rattle.pgw_client_push.specs.Standing.{IsPushBroken, IsIdle, IsOpen, StandsFor, last_input}
use Rattle.pgw_client_push.specs.State.{push_state_behind}
use Rattle.pgw_client_push.specs.Told.{answers_in, asked_of}

-- with one request more
abbrev pub input_with_request : Input → Request → Input
input_with_request input q = record input { requests = input.requests ++ q ∷ [] }

-- ---- the beginning

abbrev pub StartsClient : Input → ℕ → List ℕ → Result PushClient ClientError → Type 0
StartsClient input limit out (Ok c) =
    (encodings (startup_message input ∷ []) ≡ Ok out) × StandsFor input limit c [] out × IsOpen c
StartsClient input limit out (Err e) =
    (out ≡ []) × (((e ≡ client.ReadLimit) × (limit ≡ 0)) ⊎ StartCause input e)

-- ---- what it answers

-- where an answer leaves it
abbrev pub IsLeft : PushClient → Result DialoguePhase ClientError → Type 0
IsLeft c (Ok phase.Waiting) = IsOpen c
IsLeft c (Ok phase.Ready) = IsOpen c
IsLeft c (Ok phase.Done) = IsIdle c
IsLeft c (Err e) = IsPushBroken c

-- the answer of a request that was asked is there once its segment has closed
abbrev pub HasAnswer : PushClient → Result DialoguePhase ClientError → Type 0
HasAnswer c (Ok phase.Done) =
    (q : Request) → asked_of c ≡ Some (q ∷ []) → (answer : Answer) × (answers_in c ≡ answer ∷ [])
HasAnswer c result = Unit {0}

-- For every pair of bytes given and bytes put out that it stood for, it stands for that pair with the piece and what is
-- put out now behind them, and its answer is the one of the bytes given, with its cause, or memory is wanting. Behind the
-- end of a request's segment its answer is kept.
pub record TakesPiece (old new : PushClient) (piece old_out new_out : List ℕ)
    (result : Result DialoguePhase ClientError) : Type 0 where
  pub out : List ℕ
  pub puts : new_out ≡ old_out ++ out
  pub stands : (input : Input) (limit : ℕ) (given put : List ℕ)
      → StandsFor input limit old given put
      → StandsFor input limit new (given ++ piece) (put ++ out)
  pub answers : (input : Input) (limit : ℕ) (given put : List ℕ)
      → StandsFor input limit old given put
      → AnswersDialogue input limit (given ++ piece) (put ++ out) result
  pub answered : (input : Input) (limit : ℕ) (given put : List ℕ)
      → StandsFor input limit old given put
      → HasAnswer new result

-- The request's messages were put out: for every pair that it stood for, it stands for that pair with what was put out
-- behind it, of a session with this request behind those asked before; and its answer is that of the bytes given.
pub record PushesRequest (old new : PushClient) (q : Request) (old_out new_out : List ℕ)
    (result : Result DialoguePhase ClientError) : Type 0 where
  pub opening : List ℕ
  pub encoded : encodings (sends_of q) ≡ Ok opening
  pub out : List ℕ
  pub puts : new_out ≡ old_out ++ (opening ++ out)
  pub stands : (input : Input) (limit : ℕ) (given put : List ℕ)
      → StandsFor input limit old given put
      → StandsFor (input_with_request input q) limit new given (put ++ (opening ++ out))
  pub answers : (input : Input) (limit : ℕ) (given put : List ℕ)
      → StandsFor input limit old given put
      → AnswersDialogue (input_with_request input q) limit given (put ++ (opening ++ out)) result

-- it has no spelling, or memory was wanting, and nothing changed
abbrev pub PushNotAsked : PushClient → PushClient → Request → List ℕ → List ℕ
    → Result DialoguePhase ClientError → Type 0
PushNotAsked old new q old_out new_out (Ok p) = ⊥
PushNotAsked old new q old_out new_out (Err e) =
    (new ≡ old) × (new_out ≡ old_out)
    × ((e ≡ client.OutOfMemory) ⊎
    ((why : PgWireError) × (encodings (sends_of q) ≡ Err why) × (e ≡ client.PgWireError why)))

abbrev pub AsksNext : PushClient → PushClient → Request → List ℕ → List ℕ
    → Result DialoguePhase ClientError → Type 0
AsksNext old new q old_out new_out result =
    PushNotAsked old new q old_out new_out result
    ⊎ (PushesRequest old new q old_out new_out result × IsLeft new result)

-- The bytes given begin with those of a whole session, with those put out, and the last answer of its report is this
-- one. Each request has one answer there.
pub record IsLastAnswer (input : Input) (given put : List ℕ) (answer : Answer) : Type 0 where
  pub report : SessionReport
  pub completed : Completed input given put report
  pub earlier : List Answer
  pub last : report.answers ≡ earlier ++ answer ∷ []

-- ---- on the way there; no public clause cites it

-- the startup message was put out, or not
abbrev pub Begun : Input → ℕ → List ℕ → Result Notes ClientError → Type 0
Begun input limit out (Ok notes) = StartsRun input out (Ok notes) × (0 < limit)
Begun input limit out (Err e) =
    (out ≡ []) × (((e ≡ client.ReadLimit) × (limit ≡ 0)) ⊎ StartCause input e)

-- the notes behind the opening of a request's segment
abbrev pub opening_notes : Notes → Request → Notes
opening_notes n q = record n { stage = stage_for q; closed = 1; answers = [] }

-- the segment of a request was opened
pub record OpensSegment (old new : PushClient) (q : Request) : Type 0 where
  pub asked : new.asked ≡ Some (q ∷ [])
  pub notes : new.notes ≡ opening_notes old.notes q
  pub state : new.state ≡ state.Open
  pub made : (new.config ≡ old.config) × (new.nonce ≡ old.nonce)
  pub inbox : new.inbox ≡ old.inbox
  pub room : new.room ≡ old.room

-- the messages that are whole were taken
pub record Served (old new : PushClient) (old_out new_out : List ℕ)
    (result : Result DialoguePhase ClientError)
    : Type 0 where
  pub fed : Result Bool ClientError
  pub serves : Serves (last_input old) old.notes new.notes old.inbox new.inbox old_out new_out fed
  pub answer : result ≡ answer_behind fed new.room (new.notes).closed
  pub state : new.state ≡ push_state_behind result
  pub room : new.room ≡ old.room
  pub made : (new.config ≡ old.config) × (new.nonce ≡ old.nonce) × (new.asked ≡ old.asked)
