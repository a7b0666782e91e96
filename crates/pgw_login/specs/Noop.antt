-- Logins that ask for nothing.
use Rattle.std.specs.Prelude.{◌≡◌, ℤ, List, Option, Some, Result}
use Rattle.pgw_wire.specs.Pairs.{Held}
use Rattle.pgw_wire.specs.declared.secret_key.SecretKey.{SecretKey}
use Rattle.pgw_startup.specs.declared.startup.Startup.{Startup}
use Rattle.pgw_backend.specs.declared.backend.PgWireBackendMessage.{PgWireBackendMessage as Message}
use Rattle.pgw_frontend.specs.declared.frontend.PgWireFrontendMessage.{PgWireFrontendMessage}
use Rattle.pgw_frontend.specs.declared.frontend.PgWireFrontendMessage.TheVariants as frontend
use Rattle.pgw_registry.specs.Passes.{Known}
use Rattle.pgw_registry.specs.declared.error.RegistryError.{RegistryError}
use Rattle.pgw_login.specs.Client.{LoginClient}
use Rattle.pgw_login.specs.Registered.{HandlePair}
use Rattle.pgw_login.specs.Provider.{default_provider, default_parameters}
use Rattle.pgw_login.specs.declared.provider.DefaultServerParameterProvider.{DefaultServerParameterProvider}
use Rattle.pgw_login.specs.Acts.{Standing, Answer, Then, LoginStays, Marks, OrFails, with_sasl}
use Rattle.pgw_login.specs.Opening.{BeginsLogin}
use Rattle.pgw_login.specs.Finish.{AcceptsLogin, Introduces, Readies, login_ready}
use Rattle.pgw_login.specs.Hearing.{heard}
use Rattle.pgw_login.specs.declared.handler.Heard.{Heard}
use Rattle.pgw_login.specs.declared.handler.Heard.TheVariants as of
use Rattle.pgw_login.specs.declared.state.SASLState.TheVariants.{Finished}

abbrev pub IntroducesBy : DefaultServerParameterProvider → Standing → Standing → List Message
    → Answer → Type 0
IntroducesBy p = Introduces (λ c o. o ≡ Some (default_parameters p c))

-- the login is accepted at once, and something is done before the client may ask
abbrev pub Welcomes :
    (PgWireFrontendMessage → Standing → Standing → List Message → Answer → Type 0)
    → (Option Known → ℤ → SecretKey → Option Known → Result (Option HandlePair) RegistryError →
    Type 0)
    → Startup → Standing → Standing → List Message → Answer → Type 0
Welcomes posts R s =
    Then (BeginsLogin s) (Then (AcceptsLogin R)
    (Then (IntroducesBy default_provider) (Then (posts (frontend.Startup s))
    (Then (Readies login_ready) (Marks (with_sasl Finished))))))

-- a password is passed over
abbrev pub NoopOn : (PgWireFrontendMessage → Standing → Standing → List Message → Answer → Type 0)
    → (Option Known → ℤ → SecretKey → Option Known → Result (Option HandlePair) RegistryError →
    Type 0)
    → Heard → Standing → Standing → List Message → Answer → Type 0
NoopOn posts R (of.Startup s) = Welcomes posts R s
NoopOn posts R (of.Password m) = LoginStays
NoopOn posts R of.Other = LoginStays

abbrev pub NoopMeans :
    (PgWireFrontendMessage → Standing → Standing → List Message → Answer → Type 0)
    → (Option Known → ℤ → SecretKey → Option Known → Result (Option HandlePair) RegistryError →
    Type 0)
    → PgWireFrontendMessage → Standing → Standing → List Message → Answer → Type 0
NoopMeans posts R m = OrFails (NoopOn posts R (heard m))
