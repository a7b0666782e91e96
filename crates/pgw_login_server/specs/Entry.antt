-- That a client is let in only behind what it is asked for.
use Rattle.std.specs.Prelude.{◌≡◌, ◌≢◌, ℕ, Bool, true, false, List, ◌∷◌, ◌++◌, Option, Some, None, Result, Ok}
use Rattle.std.specs.List.{list_any, Contains}
use Rattle.pgw_types.specs.declared.error.PgWireError.{PgWireError}
use Rattle.pgw_startup.specs.Password.{as_password}
use Rattle.pgw_startup.specs.declared.authentication.Authentication.TheVariants as auth
use Rattle.pgw_startup.specs.declared.password.Password.{Password}
use Rattle.pgw_startup.specs.declared.password.PasswordMessageFamily.{PasswordMessageFamily}
use Rattle.pgw_startup.specs.declared.startup.Startup.{Startup}
use Rattle.pgw_scram.specs.declared.password.Password.{Password as Kept}
use Rattle.pgw_frontend.specs.declared.frontend.PgWireFrontendMessage.{PgWireFrontendMessage as Message}
use Rattle.pgw_frontend.specs.declared.frontend.PgWireFrontendMessage.TheVariants as frontend
use Rattle.pgw_backend.specs.declared.backend.PgWireBackendMessage.{PgWireBackendMessage as Backend}
use Rattle.pgw_backend.specs.declared.backend.PgWireBackendMessage.TheVariants as backend
use Rattle.pgw_machine.specs.Course.{Course, Waits, Over, sent_of}
use Rattle.pgw_machine.specs.Play.{Leads}
use Rattle.pgw_login.specs.Client.{LoginClient, with_metadata}
use Rattle.pgw_login.specs.Login.{Login, login_seen}
use Rattle.pgw_login.specs.Opening.{saved}
use Rattle.pgw_login.specs.Md5.{md5_request}
use Rattle.pgw_login.specs.declared.client_info.PgWireConnectionState.TheVariants.{ReadyForQuery}
use Rattle.pgw_login.specs.declared.state.LoginState.{LoginState}
use Rattle.pgw_login.specs.declared.state.SASLState.TheVariants.{Initial}
use Rattle.pgw_login_server.specs.Server.{Stage, ServerEnding, begins_within, serving}
use Rattle.pgw_login_server.specs.Taken.{Acts, Taken, taken_in, Accounts}

-- ---- to let a client in

-- nothing came of this client yet
abbrev pub IsNewClient : LoginClient → LoginState → Type 0
IsNewClient client login = (client.state ≢ ReadyForQuery) × (login.started ≡ false)
    × (login.sasl ≡ Initial) × (login.kept ≡ None)

-- AuthenticationOk and ReadyForQuery let a client in
abbrev pub lets_in : Backend → Bool
lets_in (backend.Authentication auth.Ok) = true
lets_in (backend.ReadyForQuery m) = true
lets_in m = false

abbrev pub MayAsk : Course Stage ServerEnding → Type 0
MayAsk (Waits stage out pending) = stage.client.state ≡ ReadyForQuery
MayAsk (Over ending out) = ⊥

-- what makes of a message, with those taken before it, a proof of who the client is
abbrev pub Proving : Type 1
Proving = List Taken → Taken → Type 0

-- A client is let in only in answer to such a message; and where it may ask, one was taken.
pub record IsGuarded (Proves : Proving) (taken : List Taken) (course : Course Stage ServerEnding)
    : Type 0
  where
    pub said : (earlier later : List Taken) (t : Taken) → taken ≡ earlier ++ t ∷ later
        → list_any lets_in t.said ≡ true → Proves earlier t
    pub ready : MayAsk course → (earlier : List Taken) × (later : List Taken) × (t : Taken)
        × (taken ≡ earlier ++ t ∷ later) × Proves earlier t

-- the messages taken account for the bytes, and the client is let in only so
abbrev pub IsGuardedWay : (means : Acts) (Proves : Proving) (begin : Stage) (given : List ℕ)
    (course : Course Stage ServerEnding) → Leads (serving means) begin given course → Type 0
IsGuardedWay means Proves begin given course way =
    let taken = taken_in means begin given course way in
    Accounts taken given (sent_of course) × IsGuarded Proves taken course

-- whatever a new client sends
abbrev pub LetsInBy : Acts → (Stage → Proving) → Type 0
LetsInBy means Proves =
    (bound : Option ℕ) (client : LoginClient) (login : LoginState) (given : List ℕ)
    (course : Course Stage ServerEnding) → IsNewClient client login
    → (way : Leads (serving means) (begins_within bound client login) given course)
    → IsGuardedWay means (Proves (begins_within bound client login))
    (begins_within bound client login)
    given course way

-- ---- who logs in

-- the one that a startup message taken before names
pub record IsNamed (client : LoginClient) (earlier : List Taken) (login : Login) : Type 0 where
  pub startup : Startup
  pub opening : Taken
  pub came : Contains earlier opening
  pub is_startup : opening.message ≡ frontend.Startup startup
  pub names : login ≡ login_seen (with_metadata (saved client.metadata startup.parameters) client)

-- ---- proofs by a password

-- what a source of passwords answers for a login
abbrev pub Source : Type 1
Source = Login → Result Kept PgWireError → Type 0

-- the message is a password message, with this text
abbrev pub IsPasswordMessage : Message → List ℕ → Type 0
IsPasswordMessage message text = (m : PasswordMessageFamily) × (read : Password)
    × (message ≡ frontend.PasswordMessageFamily m) × (as_password m ≡ Ok read)
    × (read.password ≡ text)

-- it is, byte for byte, the password that the source answers for who logs in
pub record ProvesCleartext (A : Source) (begin : Stage) (earlier : List Taken) (t : Taken) : Type
    0
  where
    pub login : Login
    pub kept : Kept
    pub named : IsNamed begin.client earlier login
    pub answered : A login (Ok kept)
    pub proof : IsPasswordMessage t.message kept.password

-- the source answered for who logs in with a salt, which the client was told
pub record IsChallenged (A : Source) (earlier : List Taken) (login : Login) (kept : Kept) : Type 0
  where
    pub salt : List ℕ
    pub challenge : Taken
    pub came : Contains earlier challenge
    pub told : Contains challenge.said (md5_request salt)
    pub answered : A login (Ok kept)
    pub salted : kept.salt ≡ Some salt

-- it is, byte for byte, the text that the source answered for who logs in, with the salt that the
-- client was told
pub record ProvesMd5 (A : Source) (begin : Stage) (earlier : List Taken) (t : Taken) : Type 0
  where
    pub login : Login
    pub kept : Kept
    pub named : IsNamed begin.client earlier login
    pub challenged : IsChallenged A earlier login kept
    pub proof : IsPasswordMessage t.message kept.password
