-- What a password message is to a login by SASL.
use Rattle.std.specs.Prelude.{Bool, true, false, Option, Some, None, Result, Ok, Err, if◌then◌else◌}
use Rattle.pgw_types.specs.declared.error.PgWireError.{PgWireError}
use Rattle.pgw_types.specs.declared.error.PgWireError.TheVariants.{InvalidSASLState, UnsupportedSASLAuthMethod}
use Rattle.pgw_startup.specs.Password.{as_initial_response, as_response}
use Rattle.pgw_startup.specs.declared.password.PasswordMessageFamily.{PasswordMessageFamily}
use Rattle.pgw_startup.specs.declared.password.PasswordMessageFamily.TheVariants as family
use Rattle.pgw_startup.specs.declared.sasl.SASLInitialResponse.{SASLInitialResponse}
use Rattle.pgw_startup.specs.declared.sasl.SASLResponse.{SASLResponse}
use Rattle.pgw_login.specs.Acts.{is_initial}
use Rattle.pgw_login.specs.declared.state.SASLState.{SASLState}
use Rattle.pgw_login.specs.declared.state.SASLState.TheVariants.{Initial, ScramClientFirstReceived, ScramServerFirstSent, StoredServerFirstSent, OauthStateInit, OauthStateError, Finished, Failed}
use Rattle.pgw_login_sasl.specs.declared.methods.Method.{Method}
use Rattle.pgw_login_sasl.specs.declared.methods.Method.TheVariants.{Scram, OauthBearer}
use Rattle.pgw_login_sasl.specs.declared.turn.Stage.{Stage}
use Rattle.pgw_login_sasl.specs.declared.turn.Stage.TheVariants.{First, Further, Over}
use Rattle.pgw_login_sasl.specs.Methods.{sasl_method}

-- a message may come once the login has begun, and until it has ended or failed
abbrev pub sasl_stage : Bool → SASLState → Stage
sasl_stage false state = Over
sasl_stage true Initial = First
sasl_stage true ScramClientFirstReceived = Further Scram
sasl_stage true (ScramServerFirstSent server) = Further Scram
sasl_stage true (StoredServerFirstSent server) = Further Scram
sasl_stage true OauthStateInit = Further OauthBearer
sasl_stage true OauthStateError = Further OauthBearer
sasl_stage true Finished = Over
sasl_stage true Failed = Over

-- ---- the method, and the message as it is read

abbrev pub named_by : Option Method → SASLInitialResponse
    → Result (Method × PasswordMessageFamily) PgWireError
named_by None m = Err (UnsupportedSASLAuthMethod m.auth_method)
named_by (Some method) m = Ok (method, family.SASLInitialResponse m)

abbrev pub named_method : Result SASLInitialResponse PgWireError
    → Result (Method × PasswordMessageFamily) PgWireError
named_method (Err e) = Err e
named_method (Ok m) = named_by (sasl_method m.auth_method) m

abbrev pub further : Method → Result SASLResponse PgWireError
    → Result (Method × PasswordMessageFamily) PgWireError
further method (Err e) = Err e
further method (Ok m) = Ok (method, family.SASLResponse m)

-- the first message names the method
abbrev pub turned : Stage → PasswordMessageFamily
    → Result (Method × PasswordMessageFamily) PgWireError
turned First message = named_method (as_initial_response message)
turned (Further method) message = further method (as_response message)
turned Over message = Err InvalidSASLState

-- ---- the state in which a method finds its message

abbrev pub sasl_start : Method → SASLState
sasl_start Scram = ScramClientFirstReceived
sasl_start OauthBearer = OauthStateInit

abbrev pub entered : Method → SASLState → SASLState
entered method state = if is_initial state then sasl_start method else state

-- the exchange has ended well
abbrev pub is_finished : SASLState → Bool
is_finished Initial = false
is_finished ScramClientFirstReceived = false
is_finished (ScramServerFirstSent server) = false
is_finished (StoredServerFirstSent server) = false
is_finished OauthStateInit = false
is_finished OauthStateError = false
is_finished Finished = true
is_finished Failed = false
