-- The server's side: what its handler does with a message.
use Rattle.std.specs.Prelude.{◌≡◌, ◌⊎◌, ℕ, ℤ, List, ◌∷◌, codes}
use Rattle.std.specs.Prelude.{Option, Some, Result, Ok, Err}
use Rattle.pgw_types.specs.declared.error.PgWireError.{PgWireError}
use Rattle.pgw_types.specs.declared.error.PgWireError.TheVariants.{OutOfMemory}
use Rattle.pgw_wire.specs.Pairs.{Held}
use Rattle.pgw_wire.specs.declared.secret_key.SecretKey.{SecretKey}
use Rattle.pgw_startup.specs.declared.authentication.Authentication.{Authentication}
use Rattle.pgw_startup.specs.declared.password.PasswordMessageFamily.{PasswordMessageFamily}
use Rattle.pgw_frontend.specs.declared.frontend.PgWireFrontendMessage.{
  PgWireFrontendMessage as Frontend,
}
use Rattle.pgw_backend.specs.declared.backend.PgWireBackendMessage.{PgWireBackendMessage as Backend}
use Rattle.pgw_scram.specs.declared.password.Password.{Password as Kept}
use Rattle.pgw_scram.specs.declared.server.ScramServerAuth.{ScramServerAuth}
use Rattle.pgw_registry.specs.Passes.{Known}
use Rattle.pgw_registry.specs.declared.error.RegistryError.{RegistryError}
use Rattle.pgw_login.specs.Client.{LoginClient}
use Rattle.pgw_login.specs.Login.{Login}
use Rattle.pgw_login.specs.Registered.{HandlePair, NotRegistered}
use Rattle.pgw_login.specs.Acts.{Standing, Answer}
use Rattle.pgw_login.specs.Provider.{default_provider, default_parameters}
use Rattle.pgw_login.specs.declared.state.SASLState.{SASLState}
use Rattle.pgw_login_sasl.specs.Methods.{bound_methods}
use Rattle.pgw_login_sasl.specs.Replies.{Reply, RefusesMethod}
use Rattle.pgw_login_sasl.specs.Scram.{ScramReplies, and_some}
use Rattle.pgw_login_sasl.specs.Sasl.{SaslMeans}
use Rattle.pgw_login_pair.specs.declared.parties.PairInput.{PairInput}

-- the source of passwords answers what is stored, for every login
abbrev pub AnswersStored : Kept → Login → Result Kept PgWireError → Type 0
AnswersStored stored login given = (given ≡ Ok stored) ⊎ (given ≡ Err OutOfMemory)

-- its end of SCRAM: so many rounds, and the hash of its certificate where it has one
abbrev pub scram_end : PairInput → ScramServerAuth
scram_end input = record { iterations = input.count; certificate_hash = input.server_hash }

abbrev pub ScramAnswers : PairInput → Login → PasswordMessageFamily → List ℕ → SASLState → Reply
    → Type 0
ScramAnswers input login message nonce state reply =
    (replied : Result (Authentication × SASLState) PgWireError)
    × ScramReplies (AnswersStored input.stored) (scram_end input) login message nonce state
    replied
    × (reply ≡ and_some replied)

-- and no other method
abbrev pub NoOauth : Login → PasswordMessageFamily → List ℕ → SASLState → Reply → Type 0
NoOauth login message nonce state reply = RefusesMethod (codes "OAUTHBEARER") reply

abbrev pub Provided : LoginClient → Option Held → Type 0
Provided c told = told ≡ Some (default_parameters default_provider c)

abbrev pub Unregistered : Option Known → ℤ → SecretKey → Option Known
    → Result (Option HandlePair) RegistryError → Type 0
Unregistered before pid key after answer = NotRegistered before after answer

-- what it offers; to bind the login too, just where it has a certificate's hash
abbrev pub methods : PairInput → List (List ℕ)
methods input = codes "SCRAM-SHA-256" ∷ bound_methods input.server_hash

-- what a message means to the server
abbrev pub Means : PairInput → Frontend → Standing → Standing → List Backend → Answer → Type 0
Means input = SaslMeans (methods input) (ScramAnswers input) NoOauth Provided Unregistered
