-- Logins by a password, whatever the method by which it is asked for and checked.
use Rattle.std.specs.Prelude.{◌≡◌, ◌⊎◌, ℕ, ℤ, List, [], ◌∷◌, Option, Some, None, unwrap_or, Result, Ok, Err, if◌then◌else◌}
use Rattle.std.specs.Str.{bytes_eq}
use Rattle.pgw_types.specs.declared.error.PgWireError.{PgWireError}
use Rattle.pgw_types.specs.declared.error.PgWireError.TheVariants.{InvalidPassword, OutOfMemory}
use Rattle.pgw_wire.specs.Pairs.{Held}
use Rattle.pgw_wire.specs.declared.secret_key.SecretKey.{SecretKey}
use Rattle.pgw_startup.specs.Password.{as_password}
use Rattle.pgw_startup.specs.declared.password.Password.{Password}
use Rattle.pgw_startup.specs.declared.password.PasswordMessageFamily.{PasswordMessageFamily}
use Rattle.pgw_backend.specs.declared.backend.PgWireBackendMessage.{PgWireBackendMessage as Message}
use Rattle.pgw_backend.specs.declared.backend.PgWireBackendMessage.TheVariants as backend
use Rattle.pgw_frontend.specs.declared.frontend.PgWireFrontendMessage.{PgWireFrontendMessage}
use Rattle.pgw_registry.specs.Passes.{Known}
use Rattle.pgw_registry.specs.declared.error.RegistryError.{RegistryError}
use Rattle.pgw_login.specs.Client.{LoginClient}
use Rattle.pgw_login.specs.Login.{Login, login_seen}
use Rattle.pgw_login.specs.Registered.{HandlePair}
use Rattle.pgw_login.specs.Acts.{Standing, Answer, Then, LoginRefuses, LoginStays, AnswersLogin, Marks, Sends, OrFails, LoginAwaits}
use Rattle.pgw_login.specs.Opening.{Opens}
use Rattle.pgw_login.specs.Finish.{Finishes}
use Rattle.pgw_login.specs.Hearing.{heard}
use Rattle.pgw_login.specs.declared.state.LoginState.{LoginState}
use Rattle.pgw_login.specs.declared.handler.Heard.{Heard}
use Rattle.pgw_login.specs.declared.handler.Heard.TheVariants as of
use Rattle.pgw_login.specs.declared.password.Challenge.{Challenge}

-- ---- what a client is asked by

-- what is kept for the password that is to come, if there is something
abbrev pub with_kept : Option (List ℕ) → LoginState → LoginState
with_kept None s = s
with_kept (Some text) s = record s { kept = Some text }

abbrev pub ChallengedBy : Result Challenge PgWireError → Standing → Standing → List Message
    → Answer → Type 0
ChallengedBy (Err e) = LoginRefuses e
ChallengedBy (Ok challenge) =
    Then (Marks (with_kept challenge.kept))
    (Sends (backend.Authentication challenge.request ∷ []))

-- what a method may open with for a login
abbrev pub Opener : Type 1
Opener = Login → Result Challenge PgWireError → Type 0

-- as the method opens for the login, so is kept and sent
abbrev pub Challenges : Opener → Standing → Standing → List Message → Answer → Type 0
Challenges opens before after sent answer =
    (challenge : Result Challenge PgWireError)
    × opens (login_seen before.client) challenge
    × ChallengedBy challenge before after sent answer

-- ---- the password that came

abbrev pub wrong_password : Login → PgWireError
wrong_password login = InvalidPassword (unwrap_or login.user [])

-- the text is the one that it is compared with, byte for byte
abbrev pub compared : List ℕ → Login → List ℕ → Answer
compared text login kept = if bytes_eq text kept then Ok tt else Err (wrong_password login)

-- what a method may answer to a text, by what was kept and the login
abbrev pub Checker : Type 1
Checker = List ℕ → Option (List ℕ) → Login → Answer → Type 0

abbrev pub CheckedBy : Checker → Result Password PgWireError → Option (List ℕ) → Login
    → Answer → Type 0
CheckedBy checks (Err e) kept login answer = answer ≡ Err e
CheckedBy checks (Ok m) kept login answer = checks m.password kept login answer

-- the message is read as a password, which the method checks; or memory runs out
abbrev pub ChecksPassword : Checker → PasswordMessageFamily → Option (List ℕ) → Login → Answer
    → Type 0
ChecksPassword checks message kept login answer =
    (answer ≡ Err OutOfMemory) ⊎ CheckedBy checks (as_password message) kept login answer

abbrev pub Checks : Checker → PasswordMessageFamily → Standing → Standing → List Message → Answer
    → Type 0
Checks checks message =
    AnswersLogin (λ before answer. ChecksPassword checks message before.login.kept
    (login_seen before.client) answer)

-- ---- the whole login

abbrev pub PasswordOn : Opener → Checker
    → (LoginClient → Option Held → Type 0)
    → (Option Known → ℤ → SecretKey → Option Known → Result (Option HandlePair) RegistryError →
    Type 0)
    → Heard → Standing → Standing → List Message → Answer → Type 0
PasswordOn opens checks P R (of.Startup s) = Then (Opens s) (Challenges opens)
PasswordOn opens checks P R (of.Password m) =
    Then LoginAwaits (Then (Checks checks m) (Finishes P R))
PasswordOn opens checks P R of.Other = LoginStays

abbrev pub PasswordMeans : Opener → Checker
    → (LoginClient → Option Held → Type 0)
    → (Option Known → ℤ → SecretKey → Option Known → Result (Option HandlePair) RegistryError →
    Type 0)
    → PgWireFrontendMessage → Standing → Standing → List Message → Answer → Type 0
PasswordMeans opens checks P R m = OrFails (PasswordOn opens checks P R (heard m))
