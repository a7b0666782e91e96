-- A client as an engine, with the error of its stream.
use Rattle.std.specs.Prelude.{◌≡◌, ℕ, Bool, true, false, List, [], ◌∷◌, Option, Some, None, Result, Ok, Err, IfOk}
use Rattle.pgw_backend.specs.declared.client_error.PgWireClientError.{PgWireClientError as ClientError}
use Rattle.pgw_backend.specs.declared.client_error.PgWireClientError.TheVariants as client
use Rattle.pgw_session.specs.declared.types.Answer.{Answer}
use Rattle.pgw_session.specs.declared.types.Request.{Request}
use Rattle.pgw_session.specs.Failures.{EndsAs}
use Rattle.pgw_session.specs.Input.{Input}
use Rattle.pgw_dialogue.specs.Wire.{IsEndError, Unless}
use Rattle.pgw_dialogue.specs.declared.phase.DialoguePhase.{DialoguePhase}
use Rattle.pgw_tokio_moving.specs.declared.engine.Engine as Engine
use Rattle.pgw_tokio_moving.specs.declared.engine.Turn.{Turn}
use Rattle.pgw_tokio_moving.specs.declared.engine.Turn.TheVariants.{More, Over}
use Rattle.pgw_tokio_moving.specs.declared.exchange.Stop.{Stop}
use Rattle.pgw_tokio_moving.specs.declared.exchange.Stop.TheVariants as stop
use Rattle.pgw_client_push.specs.declared.client.PushClient.{PushClient}
use Rattle.pgw_client_push.specs.Calls.{AsksNext, HasAnswer, IsLastAnswer}
use Rattle.pgw_client_push.specs.Standing.{IsIdle, IsOpen, StandsFor}
use Rattle.pgw_client_push.specs.Told.{answers_in, asked_of, push_room}
use Rattle.pgw_tokio.specs.declared.calling.ClientEngine.{ClientEngine}
use Rattle.pgw_tokio.specs.Feeding.{FeedsClient}
use Rattle.pgw_tokio.specs.First.{refusal_of, turn_of}

abbrev pub ClientFeeds : ClientEngine → List ℕ → List ℕ → Turn → ClientEngine → Type 0
ClientFeeds old given put turn new =
    FeedsClient old.client new.client new.refusal given put turn × (new.fault ≡ old.fault)

-- a segment is open; or the client was refused, or it can be asked
abbrev pub ClientStands : ClientEngine → Turn → Type 0
ClientStands e More = (e.refusal ≡ None) × IsOpen e.client
ClientStands e Over = e.refusal ≡ None → IsIdle e.client

-- the members of the engine
abbrev pub client_members : Engine.Ghosts ClientEngine
client_members =
    record { takes = ClientFeeds; stands = ClientStands; room = λ e. push_room e.client }

-- what holds of it where no more bytes are moved
abbrev pub ClientStandsBehind : ClientEngine → Stop → Type 0
ClientStandsBehind e stop.Over = ClientStands e Over
ClientStandsBehind e stop.End = ClientStands e More
ClientStandsBehind e (stop.Fault f) = Unit {0}

-- ---- how a request begins

-- the client was asked, which answered the turn and the refusal
pub record AsksClient (old new : PushClient) (q : Request) (refusal : Option ClientError)
    (turn : Turn) (out : List ℕ) : Type 0 where
  pub idle : IsIdle old
  pub answer : Result DialoguePhase ClientError
  pub asks : AsksNext old new q [] out answer
  pub has : HasAnswer new answer
  pub asked : IfOk answer (λ p. asked_of new ≡ Some (q ∷ []))
  pub turned : turn ≡ turn_of answer
  pub refused : refusal ≡ refusal_of answer

-- how it begins: nothing is asked of a client that can't be used
abbrev pub BeginsRequest : Bool → PushClient → Request → ClientEngine → Turn → List ℕ → Type 0
BeginsRequest true old q e turn out = AsksClient old e.client q e.refusal turn out
BeginsRequest false old q e turn out =
    (e.client ≡ old) × (e.refusal ≡ Some client.Broken) × (turn ≡ Over) × (out ≡ [])

-- ---- how they end

-- what the stream's end means, of all bytes that a client stands for
abbrev pub MeansEnd : PushClient → ClientError → Type 0
MeansEnd c why =
    IsEndError why × ((input : Input) (limit : ℕ) (given put : List ℕ)
    → StandsFor input limit c given put → Unless why (EndsAs input given put why))

-- the client, unless there is an error
abbrev pub client_unless : PushClient → Option ClientError → Result PushClient ClientError
client_unless c None = Ok c
client_unless c (Some e) = Err e

abbrev pub LoginOver : PushClient → Option ClientError → Result PushClient ClientError → Type 0
LoginOver c None result = (result ≡ Ok c) × IsIdle c
LoginOver c (Some e) result = result ≡ Err e

-- the client that can be asked or why there is none, by why no more was moved
abbrev pub LoginAnswers : PushClient → Option ClientError → Stop → Result PushClient ClientError
    → Type 0
LoginAnswers c refusal stop.Over result = LoginOver c refusal result
LoginAnswers c refusal stop.End result =
    (why : ClientError) × (result ≡ Err why) × IsOpen c × MeansEnd c why
LoginAnswers c refusal (stop.Fault f) result = result ≡ Err client.IoError

-- the answer that is there is handed out: it is the last of all that the old client stands for, and the new stands for
-- that too
pub record HandsOut (old new : PushClient) (result : Result Answer ClientError) : Type 0 where
  pub idle : IsIdle new
  pub is : (answer : Answer) → answers_in old ≡ answer ∷ [] → result ≡ Ok answer
  pub last : (input : Input) (limit : ℕ) (given put : List ℕ)
      → StandsFor input limit old given put
      → IfOk result (IsLastAnswer input given put)
  pub stands : (input : Input) (limit : ℕ) (given put : List ℕ)
      → StandsFor input limit old given put → StandsFor input limit new given put

abbrev pub RequestOver : PushClient → Option ClientError → PushClient → Result Answer ClientError
    → Type 0
RequestOver c None new result = HandsOut c new result
RequestOver c (Some e) new result = (new ≡ c) × (result ≡ Err e)

-- the client and what it is answered, by why no more was moved
abbrev pub RequestAnswers : PushClient → Option ClientError → Stop → PushClient
    → Result Answer ClientError → Type 0
RequestAnswers c refusal stop.Over new result = RequestOver c refusal new result
RequestAnswers c refusal stop.End new result =
    (new ≡ c) × IsOpen c × ((why : ClientError) × (result ≡ Err why) × MeansEnd c why)
RequestAnswers c refusal (stop.Fault f) new result = (new ≡ c) × (result ≡ Err client.IoError)
