-- That a client which may ask may do so until it is refused.
use Rattle.std.specs.Prelude.{◌≡◌, true, List, Ok}
use Rattle.pgw_frontend.specs.declared.frontend.PgWireFrontendMessage.{PgWireFrontendMessage as Message}
use Rattle.pgw_backend.specs.declared.backend.PgWireBackendMessage.{PgWireBackendMessage as Backend}
use Rattle.pgw_machine.specs.Course.{Course, Waits, Over}
use Rattle.pgw_login.specs.Client.{LoginClient}
use Rattle.pgw_login.specs.Acts.{Standing, Answer}
use Rattle.pgw_login.specs.declared.state.LoginState.{LoginState}
use Rattle.pgw_login.specs.declared.client_info.PgWireConnectionState.TheVariants.{ReadyForQuery}
use Rattle.pgw_login_server.specs.Server.{Stage, ServerEnding}

-- the client may ask, and its login has begun
abbrev pub IsReady : LoginClient → LoginState → Type 0
IsReady client login = (client.state ≡ ReadyForQuery) × (login.started ≡ true)

-- a message of such a client that is not refused leaves it so
abbrev pub KeepsReady : (Message → Standing → Standing → List Backend → Answer → Type 0) → Type 0
KeepsReady means =
    (m : Message) (before after : Standing) (sent : List Backend)
    → IsReady before.client before.login → means m before after sent (Ok tt)
    → IsReady after.client after.login

abbrev pub StaysReady : Course Stage ServerEnding → Type 0
StaysReady (Waits stage out pending) = IsReady stage.client stage.login
StaysReady (Over ending out) = Unit {0}
