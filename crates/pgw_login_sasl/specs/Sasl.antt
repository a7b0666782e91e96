-- Logins by SASL (SASL Authentication; Protocol Flow, "AuthenticationSASL").
use Rattle.std.specs.Prelude.{◌≡◌, ◌⊎◌, ℕ, ℤ, Bool, true, false, List, [], ◌∷◌, codes, Option, Some, None, Result, Ok, Err}
use Rattle.pgw_types.specs.declared.error.PgWireError.{PgWireError}
use Rattle.pgw_types.specs.declared.error.PgWireError.TheVariants.{OutOfMemory}
use Rattle.pgw_wire.specs.Pairs.{Held}
use Rattle.pgw_wire.specs.declared.secret_key.SecretKey.{SecretKey}
use Rattle.pgw_startup.specs.declared.authentication.Authentication.{Authentication}
use Rattle.pgw_startup.specs.declared.authentication.Authentication.TheVariants as auth
use Rattle.pgw_startup.specs.declared.password.PasswordMessageFamily.{PasswordMessageFamily}
use Rattle.pgw_backend.specs.declared.backend.PgWireBackendMessage.{PgWireBackendMessage as Message}
use Rattle.pgw_backend.specs.declared.backend.PgWireBackendMessage.TheVariants as backend
use Rattle.pgw_frontend.specs.declared.frontend.PgWireFrontendMessage.{PgWireFrontendMessage}
use Rattle.pgw_registry.specs.Passes.{Known}
use Rattle.pgw_registry.specs.declared.error.RegistryError.{RegistryError}
use Rattle.pgw_login.specs.Client.{LoginClient}
use Rattle.pgw_login.specs.Login.{Login, login_seen}
use Rattle.pgw_login.specs.Registered.{HandlePair}
use Rattle.pgw_login.specs.Acts.{Standing, Answer, Then, LoginRefuses, LoginStays, OrNoMemory, Marks, Sends, OrFails, with_sasl}
use Rattle.pgw_login.specs.Opening.{Opens}
use Rattle.pgw_login.specs.Finish.{Finishes}
use Rattle.pgw_login.specs.Hearing.{heard}
use Rattle.pgw_login.specs.declared.handler.Heard.{Heard}
use Rattle.pgw_login.specs.declared.handler.Heard.TheVariants as of
use Rattle.pgw_login.specs.declared.state.LoginState.{LoginState}
use Rattle.pgw_login.specs.declared.state.SASLState.{SASLState}
use Rattle.pgw_login_sasl.specs.declared.methods.Method.{Method}
use Rattle.pgw_login_sasl.specs.declared.methods.Method.TheVariants.{Scram, OauthBearer}
use Rattle.pgw_login_sasl.specs.declared.oauth.Oauth.{Oauth}
use Rattle.pgw_login_sasl.specs.declared.validator.ValidatorModuleResult.{ValidatorModuleResult}
use Rattle.pgw_login_sasl.specs.Turns.{sasl_stage, turned, entered, is_finished}
use Rattle.pgw_login_sasl.specs.Replies.{Reply, RefusesMethod}
use Rattle.pgw_login_sasl.specs.Oauth.{OauthReplies}

-- ---- what is asked for

abbrev pub sasl_request : List (List ℕ) → Message
sasl_request methods = backend.Authentication (auth.SASL methods)

-- the methods are offered
abbrev pub Offers : List (List ℕ) → Standing → Standing → List Message → Answer → Type 0
Offers methods = OrNoMemory (Sends (sasl_request methods ∷ []))

-- ---- what is replied to a password message

-- by OAUTHBEARER, if it is set
abbrev pub ByOauth : {X : Type 0} {D : X → Type 0} → Option (Oauth X D)
    → (Oauth X D → List ℕ → List ℕ → List ℕ → List ℕ → Result ValidatorModuleResult PgWireError →
    Type 0)
    → Login → PasswordMessageFamily → List ℕ → SASLState → Reply → Type 0
ByOauth None V login message nonce state reply = RefusesMethod (codes "OAUTHBEARER") reply
ByOauth (Some oauth) V login message nonce state reply =
    OauthReplies (V oauth) oauth.issuer oauth.scope login.user message state reply

-- by one of two methods
abbrev pub By : (scram oauth : Login → PasswordMessageFamily → List ℕ → SASLState → Reply → Type 0)
    → Login → Method → PasswordMessageFamily → List ℕ → SASLState → Reply → Type 0
By S O login Scram message nonce state reply = S login message nonce state reply
By S O login OauthBearer message nonce state reply = O login message nonce state reply

abbrev pub ByTurn : (scram oauth : Login → PasswordMessageFamily → List ℕ → SASLState → Reply
    → Type 0)
    → Login → LoginState → Result (Method × PasswordMessageFamily) PgWireError → Reply → Type 0
ByTurn S O login state (Err e) reply = reply ≡ Err e
ByTurn S O login state (Ok (method, message)) reply =
    By S O login method message state.nonce (entered method state.sasl) reply

-- the message is read as the state has it; or memory runs out
abbrev pub Replied : (scram oauth : Login → PasswordMessageFamily → List ℕ → SASLState → Reply
    → Type 0)
    → Login → LoginState → PasswordMessageFamily → Reply → Type 0
Replied S O login state message reply =
    (reply ≡ Err OutOfMemory)
    ⊎ ByTurn S O login state (turned (sasl_stage state.started state.sasl) message) reply

-- ---- what comes of a reply

abbrev pub sasl_messages : Option Authentication → List Message
sasl_messages None = []
sasl_messages (Some m) = backend.Authentication m ∷ []

-- the login ends where the exchange has
abbrev pub EndsSaslLogin : (LoginClient → Option Held → Type 0)
    → (Option Known → ℤ → SecretKey → Option Known → Result (Option HandlePair) RegistryError →
    Type 0)
    → Bool → Standing → Standing → List Message → Answer → Type 0
EndsSaslLogin P R false = LoginStays
EndsSaslLogin P R true = Finishes P R

-- the reply is sent, and the login is as far as the exchange
abbrev pub RespondsBy : (LoginClient → Option Held → Type 0)
    → (Option Known → ℤ → SecretKey → Option Known → Result (Option HandlePair) RegistryError →
    Type 0)
    → Reply → Standing → Standing → List Message → Answer → Type 0
RespondsBy P R (Err e) = LoginRefuses e
RespondsBy P R (Ok (reply, next)) =
    Then (Sends (sasl_messages reply))
    (Then (Marks (with_sasl next)) (EndsSaslLogin P R (is_finished next)))

abbrev pub Responds :
    (scram oauth : Login → PasswordMessageFamily → List ℕ → SASLState → Reply → Type 0)
    → (LoginClient → Option Held → Type 0)
    → (Option Known → ℤ → SecretKey → Option Known → Result (Option HandlePair) RegistryError →
    Type 0)
    → PasswordMessageFamily → Standing → Standing → List Message → Answer → Type 0
Responds S O P R message before after sent answer =
    (reply : Reply) × Replied S O (login_seen before.client) before.login message reply
    × RespondsBy P R reply before after sent answer

-- of the methods that are offered, what each replies
abbrev pub SaslOn : List (List ℕ)
    → (scram oauth : Login → PasswordMessageFamily → List ℕ → SASLState → Reply → Type 0)
    → (LoginClient → Option Held → Type 0)
    → (Option Known → ℤ → SecretKey → Option Known → Result (Option HandlePair) RegistryError →
    Type 0)
    → Heard → Standing → Standing → List Message → Answer → Type 0
SaslOn methods S O P R (of.Startup s) = Then (Opens s) (Offers methods)
SaslOn methods S O P R (of.Password m) = Responds S O P R m
SaslOn methods S O P R of.Other = LoginStays

abbrev pub SaslMeans : List (List ℕ)
    → (scram oauth : Login → PasswordMessageFamily → List ℕ → SASLState → Reply → Type 0)
    → (LoginClient → Option Held → Type 0)
    → (Option Known → ℤ → SecretKey → Option Known → Result (Option HandlePair) RegistryError →
    Type 0)
    → PgWireFrontendMessage → Standing → Standing → List Message → Answer → Type 0
SaslMeans methods S O P R m = OrFails (SaslOn methods S O P R (heard m))
