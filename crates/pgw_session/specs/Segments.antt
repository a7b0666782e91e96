-- The segments of a session: which messages follow one another.
use Rattle.std.specs.Prelude.{◌≡◌, ℕ, Bool, true, false, not, List, [], ◌∷◌, ◌++◌, map, codes, Option, Some, None}
use Rattle.std.specs.FinMap as finite
use Rattle.pgw_wire.specs.Pairs.{Held}
use Rattle.pgw_types.specs.Versions.{version_number}
use Rattle.pgw_types.specs.declared.context.ProtocolVersion.{ProtocolVersion}
use Rattle.pgw_startup.specs.Negotiate.{negotiated_version}
use Rattle.pgw_startup.specs.declared.authentication.Authentication.TheVariants as authentication
use Rattle.pgw_query.specs.declared.response.ReadyForQuery.{ReadyForQuery}
use Rattle.pgw_backend.specs.declared.backend.PgWireBackendMessage.{PgWireBackendMessage as Backend}
use Rattle.pgw_backend.specs.Asynchronous.{is_asynchronous}
use Rattle.pgw_backend.specs.declared.backend.PgWireBackendMessage.TheVariants as backend
use Rattle.pgw_frontend.specs.declared.frontend.PgWireFrontendMessage.{PgWireFrontendMessage as Frontend}
use Rattle.pgw_frontend.specs.declared.frontend.PgWireFrontendMessage.TheVariants as frontend
use Rattle.pgw_session.specs.declared.types.Request.{Request}
use Rattle.pgw_session.specs.declared.stage.Kind.{Kind}
use Rattle.pgw_session.specs.Input.{Input}
use Rattle.pgw_session.specs.Events.{Event, Sent, Got}
use Rattle.pgw_session.specs.Logins.{SessionLogin, login_events, must_bind, IsAccepted}
use Rattle.pgw_session.specs.declared.stage.Role.{Role}
use Rattle.pgw_session.specs.declared.stage.Role.TheVariants.{Taken, Closing, Completing, Failing, Misplaced}
use Rattle.pgw_session.specs.Requests.{kind_of, sends_of, sync, behind_error, role}

-- ---- runs of messages

-- each of the messages has the property
abbrev pub AreAll : (Backend → Bool) → List Backend → Type 0
AreAll p [] = Unit {0}
AreAll p (m ∷ ms) = (p m ≡ true) × AreAll p ms

-- messages got with the property, and then ReadyForQuery
pub record IsUpToReady (p : Backend → Bool) (es : List Event) : Type 0 where
  pub ms : List Backend
  pub ready : ReadyForQuery
  pub are : es ≡ map Got ms ++ Got (backend.ReadyForQuery ready) ∷ []
  pub all : AreAll p ms

abbrev pub is_ready : Backend → Bool
is_ready (backend.ReadyForQuery m) = true
is_ready m = false

abbrev pub is_other : Backend → Bool
is_other m = not (is_ready m)

-- none of the messages is ReadyForQuery
abbrev pub IsQuiet : List Backend → Type 0
IsQuiet ms = AreAll is_other ms

-- anything, up to ReadyForQuery
abbrev pub IsPassedOver : List Event → Type 0
IsPassedOver es = IsUpToReady is_other es

-- ---- the startup segment

-- a parameter of that name, where a value is set
abbrev pub with_set : List ℕ → Option (List ℕ) → Held → Held
with_set name None held = held
with_set name (Some value) held = finite.insert held name value

abbrev pub startup_parameters : Input → Held
startup_parameters input =
    with_set (codes "database") (input.config).dbname
    (with_set (codes "user") (input.config).user
    (with_set (codes "application_name") (input.config).application_name finite.empty))

-- the startup message: the configured version, and application name, user and database where they are set (StartupMessage)
abbrev pub startup_message : Input → Frontend
startup_message input = frontend.Startup (record {
  protocol_number_major = (version_number (input.config).protocol_version).0;
  protocol_number_minor = (version_number (input.config).protocol_version).1;
  parameters = startup_parameters input;
})

abbrev pub is_known : Option ProtocolVersion → Bool
is_known None = false
is_known (Some version) = true

-- what a server may say in all of the startup segment, but within a login block: what may come at any time, and its own
abbrev pub is_news : Backend → Bool
is_news (backend.Authentication authentication.Ok) = true
is_news (backend.BackendKeyData m) = true
is_news (backend.NegotiateProtocolVersion m) =
    is_known (negotiated_version m.newest_minor_protocol)
is_news m = is_asynchronous m

-- before a login block: AuthenticationOk is not among it where a login must be bound
abbrev pub is_early : Bool → Backend → Bool
is_early bound (backend.Authentication authentication.Ok) = not bound
is_early bound m = is_news m

-- the startup message, and what a server may say before a login block
abbrev pub IsBegun : Input → List Event → Type 0
IsBegun input es =
    (news : List Backend) × (es ≡ Sent (startup_message input) ∷ map Got news)
    × AreAll (is_early (must_bind input)) news

-- what a server says behind the startup message: news, one login block, and news up to ReadyForQuery
pub record IsGreeting (input : Input) (es : List Event) : Type 0 where
  pub news : List Backend
  pub login : SessionLogin
  pub rest : List Event
  pub are : es ≡ map Got news ++ (login_events input login ++ rest)
  pub all : AreAll (is_early (must_bind input)) news
  pub accepted : IsAccepted input login
  pub ends : IsUpToReady is_news rest

abbrev pub IsStartupSegment : Input → List Event → Type 0
IsStartupSegment input es =
    (answer : List Event) × (es ≡ Sent (startup_message input) ∷ answer) × IsGreeting input answer

-- ---- the segments of requests

abbrev pub sends : Option Frontend → List Frontend
sends None = []
sends (Some m) = m ∷ []

-- messages that the row takes, one after the other, and whether rows may come behind them
abbrev pub AreTaken : Kind → Bool → List Backend → Bool → Type 0
AreTaken k rows [] behind = rows ≡ behind
AreTaken k rows (m ∷ ms) behind =
    (next : Bool) × (role k rows m ≡ Taken next) × AreTaken k next ms behind

-- what stands behind the message that ends them
abbrev pub IsEnd : Kind → Role → List Event → Type 0
IsEnd k (Taken rows) es = ⊥
IsEnd k Closing es = es ≡ []
IsEnd k Completing es = (rest : List Event) × (es ≡ Sent sync ∷ rest) × IsPassedOver rest
IsEnd k Failing es =
    (rest : List Event) × (es ≡ map Sent (sends (behind_error k)) ++ rest) × IsPassedOver rest
IsEnd k Misplaced es = ⊥

-- what a server answers to a request: messages that are taken, and one that ends them
pub record IsAnswer (k : Kind) (rows : Bool) (es : List Event) : Type 0 where
  pub ms : List Backend
  pub behind : Bool
  pub last : Backend
  pub rest : List Event
  pub are : es ≡ map Got ms ++ Got last ∷ rest
  pub taken : AreTaken k rows ms behind
  pub ends : IsEnd k (role k behind last) rest

-- the segment of a request
abbrev pub IsRequestSegment : Request → List Event → Type 0
IsRequestSegment q es =
    (answer : List Event) × (es ≡ map Sent (sends_of q) ++ answer)
    × IsAnswer (kind_of q) false answer

-- the events begin with a simple query
abbrev pub IsSimple : List Event → Type 0
IsSimple [] = ⊥
IsSimple (Got m ∷ es) = ⊥
IsSimple (Sent (frontend.Query m) ∷ es) = Unit {0}
IsSimple (Sent m ∷ es) = ⊥
