-- A server's side of a login, as a machine over bytes.
use Rattle.std.specs.Prelude.{◌≡◌, ℕ, Bool, true, false, List, [], ◌∷◌, fold, Option, None, Result, Ok, Err}
use Rattle.pgw_types.specs.declared.error.PgWireError.{PgWireError}
use Rattle.pgw_types.specs.declared.error.PgWireError.TheVariants.{OutOfMemory}
use Rattle.pgw_control.specs.declared.cancel.CancelRequest.{CancelRequest}
use Rattle.pgw_frontend.specs.declared.frontend.PgWireFrontendMessage.{PgWireFrontendMessage as Message}
use Rattle.pgw_frontend.specs.declared.frontend.PgWireFrontendMessage.TheVariants as frontend
use Rattle.pgw_backend.specs.declared.backend.PgWireBackendMessage.{PgWireBackendMessage as Backend}
use Rattle.pgw_machine.specs.Course.{Front, Move, On, Ends}
use Rattle.pgw_machine.specs.Play.{Play}
use Rattle.pgw_login.specs.Client.{LoginClient}
use Rattle.pgw_login.specs.Sending.{and_encoding}
use Rattle.pgw_login.specs.Acts.{Standing, standing_in_login, Answer}
use Rattle.pgw_login.specs.declared.client_info.PgWireConnectionState.{PgWireConnectionState}
use Rattle.pgw_login.specs.declared.client_info.PgWireConnectionState.TheVariants.{ReadyForQuery}
use Rattle.pgw_login.specs.declared.state.LoginState.{LoginState}
use Rattle.pgw_login_server.specs.Front.{client_front, server_front}

-- ---- where a connection is, and how it ends

-- what is seen of the client, its login, whether its startup message was taken, and the most bytes that a message may
-- say it has until the client may ask, if that is bounded
pub record Stage : Type 0 where
  pub client : LoginClient
  pub login : LoginState
  pub started : Bool
  pub bound : Option ℕ

abbrev pub begins_within : Option ℕ → LoginClient → LoginState → Stage
begins_within bound client login =
    record { client = client; login = login; started = false; bound = bound }

abbrev pub begins : LoginClient → LoginState → Stage
begins = begins_within None

-- the bound falls where the client may ask
abbrev pub bound_in : PgWireConnectionState → Option ℕ → Option ℕ
bound_in ReadyForQuery bound = None
bound_in state bound = bound

abbrev pub bound_at : Stage → Option ℕ
bound_at stage = bound_in stage.client.state stage.bound

-- a message was refused, or the client asks for a query to be canceled
pub data Cause : Type 0 where
  Refused : (why : PgWireError) → Cause
  Asked : (request : CancelRequest) → Cause

pub record ServerEnding : Type 0 where
  pub cause : Cause
  pub stage : Stage

abbrev pub server_ending : Cause → Stage → ServerEnding
server_ending cause stage = record { cause = cause; stage = stage }

-- ---- what a message does

-- the encodings of the messages, one after the other, where each has one
abbrev pub server_encodings : List Backend → Result (List ℕ) PgWireError
server_encodings ms = fold and_encoding (Ok []) ms

abbrev pub stage_after : Standing → Bool → Stage → Stage
stage_after s started stage =
    record stage { client = s.client; login = s.login; started = started }

-- a handler's answer: it goes on, and the startup message was taken; or it is refused
abbrev pub answer_move : Answer → Standing → Stage → List ℕ → Move Stage ServerEnding
answer_move (Ok done) s stage out = On (stage_after s true stage) out
answer_move (Err e) s stage out =
    Ends (server_ending (Refused e) (stage_after s stage.started stage)) out

-- the handler's act, with the encodings of what it sends put out; no call of a core's outbox fails
abbrev pub Handles : (Message → Standing → Standing → List Backend → Answer → Type 0) → Stage
    → Message → Move Stage ServerEnding → Type 0
Handles means stage m move =
    (to : Standing) × (sent : List Backend) × (answer : Answer) × (out : List ℕ)
    × means m (standing_in_login stage.client stage.login 0) to sent answer
    × (server_encodings sent ≡ Ok out) × (move ≡ answer_move answer to stage out)
    × (to.faults ≡ 0)

-- A request for encryption is refused by the byte `N`, and a request to cancel ends the connection. All else is the handler's.
abbrev pub Steps : (Message → Standing → Standing → List Backend → Answer → Type 0) → Stage
    → Message → Move Stage ServerEnding → Type 0
Steps means stage (frontend.SslNegotiation m) move = move ≡ On stage (78 ∷ [])
Steps means stage (frontend.CancelRequest r) move = move ≡ Ends (server_ending (Asked r) stage) []
Steps means stage m move = Handles means stage m move

-- ---- the machine

abbrev pub stage_front : Stage → List ℕ → Front Message PgWireError
stage_front stage bytes =
    server_front bytes (client_front stage.started (bound_at stage)
    stage.client.protocol_version bytes)

-- what is refused at the front ends it, and so may want of memory at any time
abbrev pub serving : (Message → Standing → Standing → List Backend → Answer → Type 0)
    → Play Stage ServerEnding Message PgWireError
serving means = record {
  read = stage_front;
  Steps = Steps means;
  Refuses = λ stage why ending. ending ≡ server_ending (Refused why) stage;
  Breaks = λ stage ending. ending ≡ server_ending (Refused OutOfMemory) stage;
}
