-- What a server's core stands for.
use Rattle.std.specs.Prelude.{◌≡◌, ℕ, true, false, List, ◌++◌, Result, Ok, Err}
use Rattle.pgw_types.specs.declared.error.PgWireError.{PgWireError}
use Rattle.pgw_frontend.specs.declared.frontend.PgWireFrontendMessage.{PgWireFrontendMessage as Message}
use Rattle.pgw_backend.specs.declared.backend.PgWireBackendMessage.{PgWireBackendMessage as Backend}
use Rattle.pgw_machine.specs.Course.{Course, Waits, Over}
use Rattle.pgw_machine.specs.Play.{Leads, Continues}
use Rattle.pgw_login.specs.DefaultClients.{login_client}
use Rattle.pgw_login.specs.Acts.{Standing, Answer}
use Rattle.pgw_login.specs.declared.client_info.PgWireConnectionState.{PgWireConnectionState}
use Rattle.pgw_login.specs.declared.client_info.PgWireConnectionState.TheVariants.{ReadyForQuery}
use Rattle.pgw_login_server.specs.Server.{Stage, Cause, Refused, Asked, ServerEnding, serving}
use Rattle.pgw_login_server.specs.declared.connection.ServerCore.{ServerCore}
use Rattle.pgw_login_server.specs.declared.connection.ServerPhase.{ServerPhase}
use Rattle.pgw_login_server.specs.declared.connection.ServerPhase.TheVariants.{Waiting, Finished, CancelAsked}

abbrev pub stage_of : {H : Type 0} → ServerCore H → Stage
stage_of core =
    record {
      client = login_client core.client;
      login = core.login;
      started = core.started;
      bound
          = core.bound;
    }

-- the core is at this place, and these bytes were put out
abbrev pub IsAt : {H : Type 0} → ServerCore H → List ℕ → Course Stage ServerEnding → Type 0
IsAt core put (Waits stage out pending) =
    (core.over ≡ false) × (stage ≡ stage_of core) × (out ≡ put) × (pending ≡ core.inbox.items)
IsAt core put (Over ending out) =
    (core.over ≡ true) × (ending.stage ≡ stage_of core) × (out ≡ put)

-- From this beginning the bytes given lead to where the core is, and these bytes are put out on the way.
abbrev pub ServerStands : {H : Type 0}
    → (Message → Standing → Standing → List Backend → Answer → Type 0) → Stage → ServerCore H
    → List ℕ → List ℕ → Type 0
ServerStands means begin core given put =
    (course : Course Stage ServerEnding) × Leads (serving means) begin given course
    × IsAt core put course

-- the login is finished where the client may ask
abbrev pub phase_at : PgWireConnectionState → ServerPhase
phase_at ReadyForQuery = Finished
phase_at state = Waiting

abbrev pub cause_result : Cause → Result ServerPhase PgWireError
cause_result (Refused e) = Err e
cause_result (Asked request) = Ok (CancelAsked request)

-- what is answered at a place
abbrev pub server_answer_at : Course Stage ServerEnding → Result ServerPhase PgWireError
server_answer_at (Waits stage out pending) = Ok (phase_at stage.client.state)
server_answer_at (Over ending out) = cause_result ending.cause

-- as server_answer_at, where a call has just led there, and its answer says so
abbrev pub Arrives : {H : Type 0}
    → (Message → Standing → Standing → List Backend → Answer → Type 0) → Stage → ServerCore H
    → List ℕ → List ℕ → Result ServerPhase PgWireError → Type 0
Arrives means begin core given put answer =
    (course : Course Stage ServerEnding) × Leads (serving means) begin given course
    × IsAt core put course × (answer ≡ server_answer_at course)

-- From where a core was, a piece more leads to where it is, these bytes are put out on the way, and of one that goes on
-- the answer says so.
abbrev pub WentOn : {H : Type 0}
    → (Message → Standing → Standing → List Backend → Answer → Type 0)
    → ServerCore H → ServerCore H → List ℕ → List ℕ → List ℕ → List ℕ → Course Stage ServerEnding
    → Result ServerPhase PgWireError → Type 0
WentOn means old new put piece before after course answer =
    (more : List ℕ) × (there : Course Stage ServerEnding) × (after ≡ before ++ more)
    × Continues (serving means) course piece there × IsAt new (put ++ more) there
    × (old.over ≡ false → answer ≡ server_answer_at there)
