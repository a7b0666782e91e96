-- How a pool is started.
use Rattle.std.specs.Prelude.{◌≡◌, ◌≢◌, ◌⊎◌, ◌≤◌, ℕ, negsuc, pos, List, [], ◌∷◌, ◌++◌, map, Option}
use Rattle.pgw_wire.specs.declared.secret_key.SecretKey.TheVariants.{I32}
use Rattle.pgw_backend.specs.declared.client_error.PgWireClientError.{PgWireClientError as ClientError}
use Rattle.pgw_backend.specs.declared.client_error.PgWireClientError.TheVariants as client
use Rattle.pgw_config.specs.declared.config.Config.{Config}
use Rattle.pgw_link.specs.Tape.{new_tape}
use Rattle.pgw_link.specs.Dials.{DialTape, MakesNext}
use Rattle.pgw_handlers.specs.Startup.{HeardAtStartup, startup}
use Rattle.pgw_handlers_default.specs.declared.startup.DefaultStartupHandler.{DefaultStartupHandler}
use Rattle.pgw_session.specs.declared.stage.Stage.TheVariants.{Starting}
use Rattle.pgw_handlers_default.specs.Startup.{StartupMeans, exchanges}
use Rattle.pgw_client_calls.specs.Line.{Foretold, IsWithin}
use Rattle.pgw_client_calls.specs.Connecting.{Connected, NotConnected}
use Rattle.pgw_pool.specs.Histories.{History, View, new_history, IsIdleInPool}

-- a session for each nonce, of which none was lent
abbrev pub new_histories : Config → List (List ℕ) → List History
new_histories config nonces = map (new_history config) nonces

-- the handler of a login
abbrev pub handler_with : List ℕ → DefaultStartupHandler
handler_with nonce = record {
  nonce = nonce;
  stage = Starting;
  process_id = negsuc 0;
  secret_key = I32 (pos 0);
}

-- what a dialer tells of its dials, what its next links have to come, how many of its calls failed
pub record Dials : Type 0 where
  pub tape : DialTape
  pub offers : Option (List (List ℕ))
  pub faults : ℕ

abbrev pub dials : DialTape → Option (List (List ℕ)) → ℕ → Dials
dials tape offers faults = record { tape = tape; offers = offers; faults = faults }

-- a login by this nonce, over a link that was dialled, and of which no more is read than the limit
abbrev pub PoolConnects : Config → ℕ → List ℕ → Dials → Dials → View → Type 0
PoolConnects config limit nonce old new v =
    IsWithin limit v.line
    × Connected (λ before after answer. StartupMeans before startup after answer)
    (HeardAtStartup exchanges StartupMeans) (handler_with nonce) config limit old.tape new.tape
    v.client v.line

-- one by each of these nonces, in order
pub data ConnectAll (config : Config) (limit : ℕ) (old : Dials)
    : List (List ℕ) → Dials → List View → Type 0 where
  no_login : ConnectAll config limit old [] old []
  login_more : (nonces : List (List ℕ)) (nonce : List ℕ) (mid new : Dials) (vs : List View)
      (v : View) →
      ConnectAll config limit old nonces mid vs → PoolConnects config limit nonce mid new v →
      ConnectAll config limit old (nonces ++ nonce ∷ []) new (vs ++ v ∷ [])

-- as ConnectAll, by a dialer that knows its offers: each login is over the next of its links, its bytes are
-- the front of what that had to come, and this is what the links still have. The count of faults never
-- falls.
pub data ConnectForetold (config : Config) (limit : ℕ) (old : Dials)
    : List (List ℕ) → Dials → List (Option (List ℕ)) → List View → Type 0 where
  nothing_offered : ConnectForetold config limit old [] old [] []
  offer_more : (nonces : List (List ℕ)) (nonce : List ℕ) (mid new : Dials)
      (lefts : List (Option (List ℕ))) (offer left : Option (List ℕ)) (vs : List View) (v : View)
      →
      ConnectForetold config limit old nonces mid lefts vs →
      PoolConnects config limit nonce mid new v → MakesNext mid.offers new.offers offer →
      Foretold offer left new_tape v.line.tape → mid.faults ≤ new.faults →
      ConnectForetold config limit old (nonces ++ nonce ∷ []) new
      (lefts ++ left ∷ []) (vs ++ v ∷ [])

-- the login by this nonce was refused: there was no address, or no link, or it failed over one
abbrev pub NotConnects : Type 0 → Config → ℕ → List ℕ → Dials → Dials → ClientError → Type 0
NotConnects foretells config limit nonce old new e =
    NotConnected (new ≡ old) foretells
    (λ before after answer. StartupMeans before startup after answer)
    (HeardAtStartup exchanges StartupMeans) (handler_with nonce) config limit
    old.offers new.offers old.tape new.tape old.faults new.faults e

-- A session by this nonce, of which none was lent, is idle behind all others.
abbrev pub Refills : Config → ℕ → List ℕ → Dials → Dials → List View → List View → Type 0
Refills config limit nonce old new idle now =
    (v : View) × PoolConnects config limit nonce old new v
    × IsIdleInPool 0 (new_history config nonce) v
    × (now ≡ idle ++ v ∷ [])

-- as Refills, by a dialer that knows its offers.
pub record RefillsForetold (config : Config) (limit : ℕ) (nonce : List ℕ) (old new : Dials)
    (idle now : List View) (lefts left_now : List (Option (List ℕ))) : Type 0 where
  pub last : View
  pub left : Option (List ℕ)
  pub connects : PoolConnects config limit nonce old new last
  pub offer : Option (List ℕ)
  pub made : MakesNext old.offers new.offers offer
  pub foretold : Foretold offer left new_tape last.line.tape
  pub idle_now : now ≡ idle ++ last ∷ []
  pub lefts_now : left_now ≡ lefts ++ left ∷ []

-- The logins by the first nonces were made, and the next one was refused so.
pub record PoolStopsAtLogin (foretells : Type 0) (config : Config) (limit : ℕ)
    (nonces : List (List ℕ))
    (old new : Dials) (e : ClientError) : Type 0 where
  pub done : List (List ℕ)
  pub next : List ℕ
  pub behind : List (List ℕ)
  pub cut : nonces ≡ done ++ next ∷ behind
  pub mid : Dials
  pub views : List View
  pub connected : ConnectAll config limit old done mid views
  pub refused : NotConnects foretells config limit next mid new e
  pub before : old.faults ≤ mid.faults
  pub later : mid.faults ≤ new.faults
  pub foretold : foretells →
      (lefts : List (Option (List ℕ))) × ConnectForetold config limit old done mid lefts views

-- Memory was wanting before a login: those by the first nonces were made, and nothing else was done.
-- Where some were made, one was still to be made.
pub record WantsAt (foretells : Type 0) (config : Config) (limit : ℕ) (nonces : List (List ℕ))
    (old new : Dials) : Type 0 where
  pub done : List (List ℕ)
  pub behind : List (List ℕ)
  pub cut : nonces ≡ done ++ behind
  pub more : done ≢ [] → behind ≢ []
  pub views : List View
  pub connected : ConnectAll config limit old done new views
  pub later : old.faults ≤ new.faults
  pub foretold : foretells →
      (lefts : List (Option (List ℕ))) × ConnectForetold config limit old done new lefts views

-- why no pool was started: that; or memory was wanting between logins
abbrev pub NotStarted : Type 0 → Config → ℕ → List (List ℕ) → Dials → Dials → ClientError → Type 0
NotStarted foretells config limit nonces old new e =
    PoolStopsAtLogin foretells config limit nonces old new e
    ⊎ ((e ≡ client.OutOfMemory) × WantsAt foretells config limit nonces old new)
