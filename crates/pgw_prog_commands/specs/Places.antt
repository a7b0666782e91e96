-- Places that are tried in turn, up to the first that lets a client in.
use Rattle.std.specs.Prelude.{◌≡◌, ◌⊎◌, ℕ, ◌-◌, ◌^◌, List, [], ◌∷◌, ◌++◌, Bool, negsuc, pos}
use Rattle.std.specs.Prelude.{Option, Some, None, Result, Ok, Err}
use Rattle.pgw_types.specs.declared.address.Address.{Address}
use Rattle.pgw_wire.specs.declared.secret_key.SecretKey.TheVariants.{I32}
use Rattle.pgw_config.specs.Address.{address_of}
use Rattle.pgw_session.specs.declared.stage.Stage.TheVariants.{Starting}
use Rattle.pgw_link.specs.Dials.{DialTape}
use Rattle.pgw_backend.specs.declared.client_error.PgWireClientError.{PgWireClientError as ClientError}
use Rattle.pgw_backend.specs.declared.client_error.PgWireClientError.TheVariants as client
use Rattle.pgw_handlers_default.specs.declared.startup.DefaultStartupHandler.{DefaultStartupHandler}
use Rattle.pgw_handlers_default.specs.Startup.{StartupMeans, exchanges}
use Rattle.pgw_client_calls.specs.State.{ClientState}
use Rattle.pgw_client_calls.specs.Connecting.{Connects}
use Rattle.pgw_client_calls.specs.Closing.{Closed}
use Rattle.pgw_prog_commands.specs.declared.places.Place.{Place}
use Rattle.pgw_prog_commands.specs.declared.places.NoSession.{NoSession}
use Rattle.pgw_prog_commands.specs.declared.places.NoSession.TheVariants as why
use Rattle.pgw_prog_commands.specs.declared.targets.Fit.{Fit}
use Rattle.pgw_prog_commands.specs.declared.targets.Fit.TheVariants as fit
use Rattle.pgw_prog_commands.specs.Targets.{wanted_of}
use Rattle.pgw_prog_commands.specs.Telling.{Telling}
use Rattle.pgw_prog_commands.specs.Fitting.{FitsBy}

-- ---- the dials

-- each of these dials is to the address of a place of its own, in the order of the places; whether
-- it made a link is told
pub data InTurn : List Place → List (Address × Bool) → Type 0 where
  none : InTurn [] []
  passed : (place : Place) (places : List Place) (dials : List (Address × Bool))
      → InTurn places dials → InTurn (place ∷ places) dials
  dialled : (place : Place) (places : List Place) (to : Address) (made : Bool)
      (dials : List (Address × Bool)) → address_of place.config ≡ Ok to → InTurn places dials
      → InTurn (place ∷ places) ((to, made) ∷ dials)

-- places were dialled in turn, each once at most
pub record DialsInTurn (places : List Place) (old new : DialTape) : Type 0 where
  pub dials : List (Address × Bool)
  pub in_turn : InTurn places dials
  pub dialled : new.dialled ≡ old.dialled ++ dials

-- ---- a place

-- why there is no session behind an error, or none yet: the next place is tried where no link was
-- made, or it failed or ended
abbrev pub no_session_of : ClientError → Option NoSession
no_session_of client.OutOfMemory = Some why.Memory
no_session_of client.IoError = None
no_session_of client.UnexpectedEOF = None
no_session_of e = Some why.Refused

-- and behind a server that will not do
abbrev pub EndsUnfit : Fit → Option NoSession → Type 0
EndsUnfit fit.Fits ended = ⊥
EndsUnfit fit.Unfit ended = ended ≡ None
EndsUnfit fit.Starved ended = ended ≡ Some why.Memory

-- a login with a nonce, which has not begun
abbrev pub login_by : List ℕ → DefaultStartupHandler
login_by nonce = record {
  nonce = nonce;
  stage = Starting;
  process_id = negsuc 0;
  secret_key = I32 (pos 0);
}

-- as many bytes may come as can be counted
abbrev pub no_limit : ℕ
no_limit = 2 ^ 64 - 1

-- a login at a place by the default handler, with the place's nonce
abbrev pub ConnectsAt : {Y X : Type 0} → Telling Y X → Place → Y → Y →
    Result (ClientState X) ClientError → Type 0
ConnectsAt t place old new result =
    Connects t.foretells t.offers t.dials t.failed t.left t.tape t.faults exchanges StartupMeans
    (login_by place.nonce) place.config no_limit old new result

-- the same; or memory was wanting before it
abbrev pub LogsInAtPlace : {Y X : Type 0} → Telling Y X → Place → Y → Y →
    Result (ClientState X) ClientError → Type 0
LogsInAtPlace t place old new (Ok c) = ConnectsAt t place old new (Ok c)
LogsInAtPlace t place old new (Err e) =
    ConnectsAt t place old new (Err e) ⊎ ((e ≡ client.OutOfMemory) × (new ≡ old))

-- a client's server will do, or not, as a question left the client
abbrev pub Looks : {Y X : Type 0} → Telling Y X → Option Bool → ClientState X → ClientState X →
    Fit → Type 0
Looks t wanted before after how = FitsBy t.knows t.left t.tape t.faults wanted before after how

-- a client took leave, and its link was closed
abbrev pub IsClosed : {Y X : Type 0} → Telling Y X → ClientState X → Y → Y → Type 0
IsClosed t c old new = (result : Result (Unit {0}) ClientError)
    × Closed c.broken (t.tape c.link) (t.faults c.link) (t.dials old) (t.dials new)
    (t.failed old) (t.failed new) result

-- A client is kept whose server will do, as the question left it; and any other is closed.
abbrev pub KeepsAtPlace : {Y X : Type 0} → Telling Y X → Option Bool → ClientState X → Y → Y →
    Result (ClientState X) (Option NoSession) → Type 0
KeepsAtPlace t wanted first old new (Ok c) = (new ≡ old) × Looks t wanted first c fit.Fits
KeepsAtPlace {X = X} t wanted first old new (Err ended) = (how : Fit) × (last : ClientState X)
    × Looks t wanted first last how × EndsUnfit how ended × IsClosed t last old new

-- A place let a client in: its login ended well, and its server will do.
pub record PlaceLetsIn {Y X : Type 0} (t : Telling Y X) (place : Place) (old new : Y)
    (c : ClientState X) : Type 0 where
  pub first : ClientState X
  pub mid : Y
  pub login : ConnectsAt t place old mid (Ok first)
  pub keeps : KeepsAtPlace t (wanted_of place.config.target_session_attrs) first mid new (Ok c)

-- A place let none in: there was no login, or its server will not do.
pub data PassesPlace {Y X : Type 0} (t : Telling Y X) (place : Place) (old new : Y)
    : Option NoSession → Type 0 where
  refused : (e : ClientError) → LogsInAtPlace {X = X} t place old new (Err e)
      → PassesPlace t place old new (no_session_of e)
  unfit : (first : ClientState X) (mid : Y) (ended : Option NoSession)
      → ConnectsAt t place old mid (Ok first)
      → KeepsAtPlace t (wanted_of place.config.target_session_attrs) first mid new (Err ended)
      → PassesPlace t place old new ended

abbrev pub Tries : {Y X : Type 0} → Telling Y X → Place → Y → Y →
    Result (ClientState X) (Option NoSession) → Type 0
Tries t place old new (Ok c) = PlaceLetsIn t place old new c
Tries t place old new (Err ended) = PassesPlace t place old new ended

-- ---- places

-- Places were tried in their order, up to the first that let a client in, or to the first behind
-- which no other is tried.
pub data TriesAll {Y X : Type 0} (t : Telling Y X)
    : List Place → Y → Y → Result (ClientState X) NoSession → Type 0 where
  no_more : (d : Y) → TriesAll t [] d d (Err why.Refused)
  next : (place : Place) (places : List Place) (old mid new : Y)
      (result : Result (ClientState X) NoSession) → PassesPlace t place old mid None
      → TriesAll t places mid new result → TriesAll t (place ∷ places) old new result
  stopped : (place : Place) (places : List Place) (old new : Y) (why : NoSession)
      → PassesPlace t place old new (Some why) → TriesAll t (place ∷ places) old new (Err why)
  let_in : (place : Place) (places : List Place) (old new : Y) (c : ClientState X)
      → PlaceLetsIn t place old new c → TriesAll t (place ∷ places) old new (Ok c)
