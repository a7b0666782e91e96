-- Logins by a password under MD5 (Protocol Flow, "AuthenticationMD5Password").
use Rattle.std.specs.Prelude.{◌≡◌, ◌⊎◌, ℕ, ℤ, List, Option, Some, None, Result, Ok, Err}
use Rattle.pgw_types.specs.declared.error.PgWireError.{PgWireError}
use Rattle.pgw_types.specs.declared.error.PgWireError.TheVariants.{InvalidSASLState, SaltRequired, OutOfMemory}
use Rattle.pgw_wire.specs.Pairs.{Held}
use Rattle.pgw_wire.specs.declared.secret_key.SecretKey.{SecretKey}
use Rattle.pgw_startup.specs.declared.authentication.Authentication.TheVariants as auth
use Rattle.pgw_scram.specs.declared.password.Password.{Password as Kept}
use Rattle.pgw_backend.specs.declared.backend.PgWireBackendMessage.{PgWireBackendMessage as Message}
use Rattle.pgw_backend.specs.declared.backend.PgWireBackendMessage.TheVariants as backend
use Rattle.pgw_frontend.specs.declared.frontend.PgWireFrontendMessage.{PgWireFrontendMessage}
use Rattle.pgw_registry.specs.Passes.{Known}
use Rattle.pgw_registry.specs.declared.error.RegistryError.{RegistryError}
use Rattle.pgw_login.specs.Client.{LoginClient}
use Rattle.pgw_login.specs.Login.{Login}
use Rattle.pgw_login.specs.Registered.{HandlePair}
use Rattle.pgw_login.specs.Acts.{Standing, Answer}
use Rattle.pgw_login.specs.Password.{compared, PasswordMeans}
use Rattle.pgw_login.specs.declared.password.Challenge.{Challenge}

abbrev pub md5_request : List ℕ → Message
md5_request salt = backend.Authentication (auth.MD5Password salt)

abbrev pub md5_with_salt : Option (List ℕ) → List ℕ → Result Challenge PgWireError
md5_with_salt None text = Err SaltRequired
md5_with_salt (Some salt) text = Ok (record { request = auth.MD5Password salt; kept = Some text })

-- the salt of what the source keeps is sent, and its text is kept
abbrev pub md5_challenge : Result Kept PgWireError → Result Challenge PgWireError
md5_challenge (Err e) = Err e
md5_challenge (Ok kept) = md5_with_salt kept.salt kept.password

-- the source is asked for the login; or memory runs out
abbrev pub OpensMd5 : (Login → Result Kept PgWireError → Type 0) → Login
    → Result Challenge PgWireError → Type 0
OpensMd5 A login challenge =
    (challenge ≡ Err OutOfMemory)
    ⊎ ((given : Result Kept PgWireError) × A login given × (challenge ≡ md5_challenge given))

-- the password is the text that is kept
abbrev pub ChecksMd5 : List ℕ → Option (List ℕ) → Login → Answer → Type 0
ChecksMd5 text None login answer = answer ≡ Err InvalidSASLState
ChecksMd5 text (Some kept) login answer = answer ≡ compared text login kept

abbrev pub Md5Means : (Login → Result Kept PgWireError → Type 0)
    → (LoginClient → Option Held → Type 0)
    → (Option Known → ℤ → SecretKey → Option Known → Result (Option HandlePair) RegistryError →
    Type 0)
    → PgWireFrontendMessage → Standing → Standing → List Message → Answer → Type 0
Md5Means A = PasswordMeans (OpensMd5 A) ChecksMd5
