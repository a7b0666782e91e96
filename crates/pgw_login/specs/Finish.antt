-- How a login ends (Protocol Flow, "Start-up": from AuthenticationOk to ReadyForQuery).
use Rattle.std.specs.Prelude.{◌≡◌, ◌⊎◌, ◌≤◌, ℕ, Bool, true, false, ℤ, pos, List, [], ◌∷◌, ◌++◌, map, Option, Some, None, is_some, Result, Ok, Err}
use Rattle.std.specs.FinMap as finite
use Rattle.pgw_types.specs.declared.error.PgWireError.{PgWireError}
use Rattle.pgw_types.specs.declared.error.PgWireError.TheVariants.{PidsExhausted, RegistryExhausted, OutOfMemory}
use Rattle.pgw_wire.specs.Pairs.{Held}
use Rattle.pgw_wire.specs.declared.secret_key.SecretKey.{SecretKey}
use Rattle.pgw_startup.specs.declared.authentication.Authentication.TheVariants as auth
use Rattle.pgw_query.specs.declared.response.TransactionStatus.TheVariants.{Idle}
use Rattle.pgw_backend.specs.declared.backend.PgWireBackendMessage.{PgWireBackendMessage as Message}
use Rattle.pgw_backend.specs.declared.backend.PgWireBackendMessage.TheVariants as backend
use Rattle.pgw_registry.specs.Seats.{Numbers}
use Rattle.pgw_registry.specs.Generator.{Generates}
use Rattle.pgw_registry.specs.Passes.{Known}
use Rattle.pgw_registry.specs.declared.error.PidError.{PidError}
use Rattle.pgw_registry.specs.declared.error.PidError.TheVariants as pid
use Rattle.pgw_registry.specs.declared.error.RegistryError.{RegistryError}
use Rattle.pgw_registry.specs.declared.error.RegistryError.TheVariants as registry
use Rattle.pgw_login.specs.Client.{LoginClient, with_key, with_state}
use Rattle.pgw_login.specs.Registered.{HandlePair}
use Rattle.pgw_login.specs.Acts.{Standing, Answer, Then, LoginRefuses, LoginStays, OrNoMemory, Sets, Marks, Sends, with_sasl}
use Rattle.pgw_login.specs.declared.client_info.PgWireConnectionState.TheVariants.{ReadyForQuery}
use Rattle.pgw_login.specs.declared.state.LoginState.{LoginState}
use Rattle.pgw_login.specs.declared.state.SASLState.TheVariants.{Finished}

-- ---- the process number and the key

abbrev pub with_seat : Numbers → LoginState → LoginState
with_seat seat s = record s { seat = seat }

abbrev pub pid_refusal : PidError → PgWireError
pid_refusal pid.PidsExhausted = PidsExhausted
pid_refusal pid.OutOfMemory = OutOfMemory

-- a draw of the generator, for the client's version and the words
abbrev pub DrawsFor : Standing → LoginState → Result (ℤ × SecretKey) PidError → Type 0
DrawsFor before login =
    Generates before.login.seat before.client.protocol_version before.login.words login.seat

-- they are drawn and set in the client
abbrev pub Draws : Standing → Standing → List Message → Answer → Type 0
Draws before after sent (Ok done) =
    (sent ≡ [])
    × ((number : ℤ) × (key : SecretKey) × DrawsFor before after.login (Ok (number, key))
    × (after ≡ record before {
      client = with_key number key before.client;
      login = with_seat after.login.seat
          before.login;
    }))
Draws before after sent (Err e) =
    (sent ≡ []) × (after ≡ record before { login = with_seat after.login.seat before.login })
    × ((why : PidError) × (e ≡ pid_refusal why) × DrawsFor before after.login (Err why))

-- ---- the registry

abbrev pub with_pass : Option Known → LoginState → LoginState
with_pass pass s = record s { pass = pass }

abbrev pub with_handle_pair : Option Known → Option HandlePair → LoginState → LoginState
with_handle_pair pass pair s = record s { pass = pass; registered = pair }

-- what the registry's answer comes to
abbrev pub Entered : Result (Option HandlePair) RegistryError → Option Known → Standing → Standing
    → Answer → Type 0
Entered (Ok pair) pass before after answer =
    (after ≡ record before { login = with_handle_pair pass pair before.login }) × (answer ≡ Ok tt)
Entered (Err registry.Gone) pass before after answer = ⊥
Entered (Err registry.Exhausted) pass before after answer =
    (after ≡ record before { login = with_pass pass before.login })
    × (answer ≡ Err RegistryExhausted)
Entered (Err registry.OutOfMemory) pass before after answer =
    (after ≡ record before { login = with_pass pass before.login }) × (answer ≡ Err OutOfMemory)

abbrev pub EnrollsAt : Bool
    → (Option Known → ℤ → SecretKey → Option Known → Result (Option HandlePair) RegistryError →
    Type 0)
    → Standing → Standing → List Message → Answer → Type 0
EnrollsAt true R before after sent answer = LoginStays before after sent answer
EnrollsAt false R before after sent answer =
    (sent ≡ [])
    × ((pass : Option Known) × (got : Result (Option HandlePair) RegistryError) × R
    before.login.pass before.client.pid before.client.secret_key pass got
    × Entered got pass before after answer)

-- the client's number and key are registered, unless they are already
abbrev pub Enrolls : (Option Known → ℤ → SecretKey → Option Known
    → Result (Option HandlePair) RegistryError → Type 0)
    → Standing → Standing → List Message → Answer → Type 0
Enrolls R before = EnrollsAt (is_some before.login.registered) R before

-- the number and the key are drawn, and then registered
abbrev pub AcceptsLogin :
    (Option Known → ℤ → SecretKey → Option Known → Result (Option HandlePair) RegistryError → Type
    0)
    → Standing → Standing → List Message → Answer → Type 0
AcceptsLogin R = Then Draws (Enrolls R)

-- ---- what the client is told

abbrev pub status_message : List ℕ × List ℕ → Message
status_message p = backend.ParameterStatus (record { name = p.0; value = p.1 })

-- in the order of the names
abbrev pub statuses : Option Held → List Message
statuses None = []
statuses (Some held) = map status_message (finite.entries held)

abbrev pub key_data : LoginClient → Message
key_data c = backend.BackendKeyData (record { pid = c.pid; secret_key = c.secret_key })

abbrev pub introduction : LoginClient → Option Held → List Message
introduction c parameters =
    backend.Authentication auth.Ok ∷ (statuses parameters ++ key_data c ∷ [])

-- the login is accepted, with what the provider gives for the client, its number and its key
abbrev pub Introduces : (LoginClient → Option Held → Type 0) → Standing → Standing → List Message
    → Answer → Type 0
Introduces P =
    OrNoMemory (λ before after sent answer. (parameters : Option Held) × P before.client
    parameters × Sends (introduction before.client parameters) before after sent answer)

abbrev pub login_ready : Message
login_ready = backend.ReadyForQuery (record { status = Idle })

abbrev pub Readies : Message → Standing → Standing → List Message → Answer → Type 0
Readies m = Then (Sends (m ∷ [])) (Sets (with_state ReadyForQuery))

abbrev pub FinishesAuthentication : (LoginClient → Option Held → Type 0) → Standing → Standing
    → List Message → Answer → Type 0
FinishesAuthentication P = Then (Introduces P) (Readies login_ready)

-- the whole end of a login that is accepted
abbrev pub Finishes : (LoginClient → Option Held → Type 0)
    → (Option Known → ℤ → SecretKey → Option Known → Result (Option HandlePair) RegistryError →
    Type 0)
    → Standing → Standing → List Message → Answer → Type 0
Finishes P R =
    Then (AcceptsLogin R) (Then (FinishesAuthentication P) (Marks (with_sasl Finished)))
