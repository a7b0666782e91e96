-- That a client is let in by SASL only behind its proof, or its token.
use Rattle.std.specs.Prelude.{◌≡◌, ◌⊎◌, ℕ, true, List, [], ◌∷◌, Option, Some, None, Result, Ok}
use Rattle.std.specs.List.{Contains}
use Rattle.pgw_types.specs.declared.error.PgWireError.{PgWireError}
use Rattle.pgw_wire.specs.Reading.{lossy}
use Rattle.pgw_startup.specs.Password.{as_initial_response, as_response}
use Rattle.pgw_startup.specs.declared.authentication.Authentication.TheVariants as auth
use Rattle.pgw_startup.specs.declared.password.PasswordMessageFamily.{PasswordMessageFamily}
use Rattle.pgw_startup.specs.declared.sasl.SASLInitialResponse.{SASLInitialResponse}
use Rattle.pgw_startup.specs.declared.sasl.SASLResponse.{SASLResponse}
use Rattle.pgw_scram.specs.Server.{accepted}
use Rattle.pgw_scram.specs.declared.password.Password.{Password as Kept}
use Rattle.pgw_scram.specs.declared.server.ScramServerAuth.{ScramServerAuth}
use Rattle.pgw_scram.specs.declared.server.ScramServerAuthWaitingForClientFinal.{ScramServerAuthWaitingForClientFinal as WaitingForClientFinal}
use Rattle.pgw_frontend.specs.declared.frontend.PgWireFrontendMessage.{PgWireFrontendMessage as Message}
use Rattle.pgw_frontend.specs.declared.frontend.PgWireFrontendMessage.TheVariants as frontend
use Rattle.pgw_backend.specs.declared.backend.PgWireBackendMessage.TheVariants as backend
use Rattle.pgw_login.specs.Login.{Login}
use Rattle.pgw_login_server.specs.Server.{Stage}
use Rattle.pgw_login_server.specs.Taken.{Taken}
use Rattle.pgw_login_server.specs.Entry.{IsNamed, Proving, Source}
use Rattle.pgw_login_sasl.specs.Methods.{sasl_method}
use Rattle.pgw_login_sasl.specs.Oauth.{token_of}
use Rattle.pgw_secrets.specs.Server.{AcceptsStored}
use Rattle.pgw_secrets.specs.declared.secret.StoredSecret.{StoredSecret}
use Rattle.pgw_secrets.specs.declared.server.StoredScramWaiting.{StoredScramWaiting}
use Rattle.pgw_login_sasl.specs.Scram.{offered_under}
use Rattle.pgw_login_sasl.specs.Stored.{SecretSource, over, offered_under as stored_under}
use Rattle.pgw_login_sasl.specs.declared.methods.Method.{Method}
use Rattle.pgw_login_sasl.specs.declared.methods.Method.TheVariants.{Scram, OauthBearer}
use Rattle.pgw_login_sasl.specs.declared.oauth.Oauth.{Oauth}
use Rattle.pgw_login_sasl.specs.declared.scram.ScramAuth.{ScramAuth}
use Rattle.pgw_login_sasl.specs.declared.stored.Secrets.{Secrets}
use Rattle.pgw_login_sasl.specs.declared.validator.ValidatorModuleResult.{ValidatorModuleResult}

-- the message names this method, with this payload; or it is a further one, with this payload
abbrev pub IsInitial : Message → Method → List ℕ → Type 0
IsInitial message method payload = (m : PasswordMessageFamily) × (read : SASLInitialResponse)
    × (message ≡ frontend.PasswordMessageFamily m) × (as_initial_response m ≡ Ok read)
    × (sasl_method read.auth_method ≡ Some method) × (read.payload ≡ Some payload)

abbrev pub IsFurther : Message → List ℕ → Type 0
IsFurther message payload = (m : PasswordMessageFamily) × (read : SASLResponse)
    × (message ≡ frontend.PasswordMessageFamily m) × (as_response m ≡ Ok read)
    × (read.payload ≡ payload)

-- the message names a method by this name
abbrev pub HasMethodName : Message → List ℕ → Type 0
HasMethodName message name = (m : PasswordMessageFamily) × (read : SASLInitialResponse)
    × (message ≡ frontend.PasswordMessageFamily m) × (as_initial_response m ≡ Ok read)
    × (read.auth_method ≡ name)

-- ---- SCRAM

-- what a server gives for a login: to a client-first under a method's name and by a nonce a server-first, and
-- what waits for client-final
abbrev pub Giving : Type 0 → Type 1
Giving W = Login → (name client_first nonce server_first : List ℕ) → W → Type 0

-- what waits takes a client-final, with this server-final
abbrev pub Taking : Type 0 → Type 1
Taking W = W → (client_final server_final : List ℕ) → Type 0

-- Client-first came under a method's name, and by it, with this nonce, server-first was offered. What offered
-- it waits for client-final.
pub record IsOffered {W : Type 0} (Gives : Giving W) (nonce : List ℕ) (earlier : List Taken)
    (login : Login) (waiting : W) : Type 0 where
  pub asked : Taken
  pub name : List ℕ
  pub client_first : List ℕ
  pub server_first : List ℕ
  pub came : Contains earlier asked
  pub first : IsInitial asked.message Scram client_first
  pub under : HasMethodName asked.message name
  pub gives : Gives login name client_first nonce server_first waiting
  pub told : asked.said ≡ backend.Authentication (auth.SASLContinue server_first) ∷ []

-- it is client-final, which what waits takes, of an exchange with the login's own nonce
pub record ProvesScram {W : Type 0} (Gives : Giving W) (Takes : Taking W) (begin : Stage)
    (earlier : List Taken) (t : Taken) : Type 0 where
  pub login : Login
  pub waiting : W
  pub client_final : List ℕ
  pub server_final : List ℕ
  pub named : IsNamed begin.client earlier login
  pub offered : IsOffered Gives begin.login.nonce earlier login waiting
  pub proof : IsFurther t.message client_final
  pub takes : Takes waiting client_final server_final

-- ---- of passwords

-- the source answered a salted password, by which the server offers
pub record GivesSalted (A : Source) (server : ScramServerAuth) (login : Login)
    (name client_first nonce server_first : List ℕ) (waiting : WaitingForClientFinal) : Type 0
  where
    pub kept : Kept
    pub answered : A login (Ok kept)
    pub offers : offered_under name server client_first kept nonce ≡ Ok (server_first, waiting)

abbrev pub TakesSalted : WaitingForClientFinal → (client_final server_final : List ℕ) → Type 0
TakesSalted waiting client_final server_final = accepted waiting client_final ≡ Ok server_final

abbrev pub ProvesSalted : {S : Type 0} → (S → Source) → ScramAuth S → Stage → Proving
ProvesSalted A scram begin earlier t =
    ProvesScram (GivesSalted (A scram.auth_db) scram.authenticator) TakesSalted begin earlier t

-- ---- of stored secrets

-- the source answered a stored secret, over which the server offers
pub record GivesStored (S : SecretSource) (server : ScramServerAuth) (login : Login)
    (name client_first nonce server_first : List ℕ) (waiting : StoredScramWaiting) : Type 0 where
  pub secret : StoredSecret
  pub answered : S login (Ok secret)
  pub offers : stored_under name (over server secret) client_first nonce ≡ Ok
      (server_first, waiting)

-- its proof hashes to StoredKey
abbrev pub TakesStored : StoredScramWaiting → (client_final server_final : List ℕ) → Type 0
TakesStored waiting client_final server_final =
    AcceptsStored waiting client_final (Ok server_final)

abbrev pub ProvesStored : {S : Type 0} → (S → SecretSource) → ScramAuth (Secrets S) → Stage
    → Proving
ProvesStored S scram begin earlier t =
    ProvesScram (GivesStored (S scram.auth_db.source) scram.authenticator) TakesStored begin
    earlier t

-- ---- OAUTHBEARER

-- what a validator answers of a token, for a user, an issuer and a scope
abbrev pub Validator : Type 1
Validator = List ℕ → List ℕ → List ℕ → List ℕ → Result ValidatorModuleResult PgWireError → Type 0

-- it has a token, which the validator says gives access to the user who logs in
pub record ProvesToken (V : Validator) (issuer scope : List ℕ) (begin : Stage)
    (earlier : List Taken) (t : Taken) : Type 0 where
  pub login : Login
  pub user : List ℕ
  pub payload : List ℕ
  pub token : List ℕ
  pub verdict : ValidatorModuleResult
  pub named : IsNamed begin.client earlier login
  pub has_user : login.user ≡ Some user
  pub proof : IsInitial t.message OauthBearer payload ⊎ IsFurther t.message payload
  pub has_token : token_of (lossy payload) ≡ Ok (Some token)
  pub judged : V token user issuer scope (Ok verdict)
  pub authorized : verdict.authorized ≡ true

-- ---- by a method that is set

-- by SCRAM, of what its source keeps
abbrev pub ProvesByScram : {S : Type 0} → (ScramAuth S → Stage → Proving) → Option (ScramAuth S)
    → Stage → Proving
ProvesByScram K None begin earlier t = ⊥
ProvesByScram K (Some scram) begin earlier t = K scram begin earlier t

abbrev pub ProvesByToken : {X : Type 0} {D : X → Type 0} → (Oauth X D → Validator)
    → Option (Oauth X D) → Stage → Proving
ProvesByToken V None begin earlier t = ⊥
ProvesByToken V (Some oauth) begin earlier t =
    ProvesToken (V oauth) oauth.issuer oauth.scope begin earlier t

abbrev pub ProvesSasl : {S X : Type 0} {D : X → Type 0} → (ScramAuth S → Stage → Proving)
    → Option (ScramAuth S) → (Oauth X D → Validator) → Option (Oauth X D) → Stage → Proving
ProvesSasl K scram V oauth begin earlier t =
    ProvesByScram K scram begin earlier t ⊎ ProvesByToken V oauth begin earlier t
