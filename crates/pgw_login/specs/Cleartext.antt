-- Logins by a password in clear text (Protocol Flow, "AuthenticationCleartextPassword").
use Rattle.std.specs.Prelude.{◌≡◌, ℕ, ℤ, List, Option, None, Result, Ok, Err}
use Rattle.pgw_types.specs.declared.error.PgWireError.{PgWireError}
use Rattle.pgw_wire.specs.Pairs.{Held}
use Rattle.pgw_wire.specs.declared.secret_key.SecretKey.{SecretKey}
use Rattle.pgw_startup.specs.declared.authentication.Authentication.TheVariants as auth
use Rattle.pgw_scram.specs.declared.password.Password.{Password as Kept}
use Rattle.pgw_backend.specs.declared.backend.PgWireBackendMessage.{PgWireBackendMessage as Message}
use Rattle.pgw_backend.specs.declared.backend.PgWireBackendMessage.TheVariants as backend
use Rattle.pgw_frontend.specs.declared.frontend.PgWireFrontendMessage.{PgWireFrontendMessage}
use Rattle.pgw_registry.specs.Passes.{Known}
use Rattle.pgw_registry.specs.declared.error.RegistryError.{RegistryError}
use Rattle.pgw_login.specs.Client.{LoginClient}
use Rattle.pgw_login.specs.Login.{Login}
use Rattle.pgw_login.specs.Registered.{HandlePair}
use Rattle.pgw_login.specs.Acts.{Standing, Answer}
use Rattle.pgw_login.specs.Password.{compared, PasswordMeans}
use Rattle.pgw_login.specs.declared.password.Challenge.{Challenge}

abbrev pub cleartext_request : Message
cleartext_request = backend.Authentication auth.CleartextPassword

abbrev pub cleartext_challenge : Challenge
cleartext_challenge = record { request = auth.CleartextPassword; kept = None }

-- whoever logs in is asked, and nothing is kept
abbrev pub OpensCleartext : Login → Result Challenge PgWireError → Type 0
OpensCleartext login challenge = challenge ≡ Ok cleartext_challenge

abbrev pub ComparedTo : List ℕ → Login → Result Kept PgWireError → Answer → Type 0
ComparedTo text login (Err e) answer = answer ≡ Err e
ComparedTo text login (Ok kept) answer = answer ≡ compared text login kept.password

-- the source is asked for the login
abbrev pub ChecksCleartext : (Login → Result Kept PgWireError → Type 0) → List ℕ
    → Option (List ℕ) → Login → Answer → Type 0
ChecksCleartext A text kept login answer =
    (given : Result Kept PgWireError) × A login given × ComparedTo text login given answer

abbrev pub CleartextMeans : (Login → Result Kept PgWireError → Type 0)
    → (LoginClient → Option Held → Type 0)
    → (Option Known → ℤ → SecretKey → Option Known → Result (Option HandlePair) RegistryError →
    Type 0)
    → PgWireFrontendMessage → Standing → Standing → List Message → Answer → Type 0
CleartextMeans A = PasswordMeans OpensCleartext (ChecksCleartext A)
