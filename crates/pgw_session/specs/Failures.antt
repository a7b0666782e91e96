-- Why a session stops before its transcript is whole, in the terms of transcripts.
use Rattle.std.specs.Prelude.{◌≡◌, ◌⊎◌, ℕ, List, [], ◌∷◌, ◌++◌, length, map, fold, Option, Some, None, Err}
use Rattle.pgw_types.specs.declared.error.PgWireError.{PgWireError}
use Rattle.pgw_startup.specs.declared.authentication.Authentication.TheVariants as authentication
use Rattle.pgw_backend.specs.Front.{front, More, Bad, Whole}
use Rattle.pgw_frontend.specs.Frontend.{encodings}
use Rattle.pgw_backend.specs.declared.backend.PgWireBackendMessage.{PgWireBackendMessage as Backend}
use Rattle.pgw_backend.specs.declared.backend.PgWireBackendMessage.TheVariants as backend
use Rattle.pgw_backend.specs.declared.client_error.PgWireClientError.{PgWireClientError as ClientError}
use Rattle.pgw_backend.specs.declared.client_error.PgWireClientError.TheVariants as client
use Rattle.pgw_frontend.specs.declared.frontend.PgWireFrontendMessage.{PgWireFrontendMessage as Frontend}
use Rattle.pgw_query.specs.Rows.{ErrorResponse}
use Rattle.pgw_query.specs.declared.response.ReadyForQuery.{ReadyForQuery}
use Rattle.pgw_session.specs.declared.types.SessionReport.{SessionReport}
use Rattle.pgw_session.specs.Events.{Event, Sent, Got, all_events}
use Rattle.pgw_session.specs.Standings.{first_standing, standing_of}
use Rattle.pgw_session.specs.Segments.{IsBegun, IsQuiet, IsSimple}
use Rattle.pgw_session.specs.Answers.{first_error}
use Rattle.pgw_session.specs.Logins.{scram_login, methods_refusal, first_refusal, expected_of, final_refusal}
use Rattle.pgw_session.specs.Transcript.{IsTranscript, IsLegalPrefix, SpellsGot, EncodesSent, Completed, Completes, opening_at}
use Rattle.pgw_session.specs.Input.{Input}

-- some segments have closed, and of the next its opening and maybe more has come; what is next in it is a message of
-- the server, so that nothing is due
pub record SessionGoesOn (input : Input) (closed : List (List Event)) (part : List Event) : Type 0
  where
    pub next : Backend
    pub rest : List Event
    pub later : List (List Event)
    pub transcript : IsTranscript input (closed ++ (part ++ Got next ∷ rest) ∷ later)
    pub opening : (more : List Event)
        × (part ≡ map Sent (opening_at input (length closed)) ++ more)

-- so it is too before a login block, whether or not this client can log in
abbrev pub IsServersTurn : Input → List (List Event) → List Event → Type 0
IsServersTurn input closed part =
    SessionGoesOn input closed part ⊎ ((closed ≡ []) × IsBegun input part)

-- messages passed over behind the events of a simple query's segment: the first makes no legal prefix there, and none
-- behind it is ReadyForQuery
abbrev pub ArePassedOver : Input → List (List Event) → List Event → List Backend → Type 0
ArePassedOver input closed part [] = Unit {0}
ArePassedOver input closed part (m ∷ ms) =
    (IsLegalPrefix input ((all_events closed ++ part) ++ Got m ∷ []) → ⊥) × IsQuiet ms
    × IsSimple part

-- where a startup segment's login block is: not begun, at server-first or at server-final of a login by one of these
-- methods, or done
pub data LoginPlace : Type 0 where
  Before : LoginPlace
  AtFirst : (methods : List (List ℕ)) → LoginPlace
  AtFinal : (methods : List (List ℕ)) → (first : List ℕ) → LoginPlace
  Behind : LoginPlace

abbrev pub place_at : LoginPlace → Event → LoginPlace
place_at p (Got (backend.Authentication authentication.CleartextPassword)) = Behind
place_at p (Got (backend.Authentication (authentication.MD5Password salt))) = Behind
place_at p (Got (backend.Authentication (authentication.SASL methods))) = AtFirst methods
place_at (AtFirst methods) (Got (backend.Authentication (authentication.SASLContinue first))) =
    AtFinal methods first
place_at p (Got (backend.Authentication (authentication.SASLFinal final))) = Behind
place_at p e = p

abbrev pub place_of : List Event → LoginPlace
place_of es = fold place_at Before es

-- a message of the startup segment for which an error of its own stands: the server's error; the first request to log
-- in; server-first and server-final in their places
abbrev pub refusal_at : Input → LoginPlace → Backend → Option ClientError
refusal_at input p (backend.ErrorResponse e) = Some (client.RemoteError e)
refusal_at input Before (backend.Authentication (authentication.SASL methods)) =
    methods_refusal input methods
refusal_at input (AtFirst methods) (backend.Authentication (authentication.SASLContinue first)) =
    first_refusal (scram_login input methods) first
refusal_at input (AtFinal methods first) (backend.Authentication (authentication.SASLFinal final))
    =
    final_refusal (expected_of (scram_login input methods) first) final
refusal_at input p m = None

-- How far the bytes taken were read when m was refused, behind the events of some closed segments and of an open one:
-- m is next, that segment is of no simple query, and no error of its own stands for m; or messages were passed over from m on, and ReadyForQuery is next,
-- or no more bytes come.
pub data RefusedAt (input : Input) (ended : Type 0) (closed : List (List Event))
    (part : List Event) (m : Backend) (spelled rest : List ℕ) : Type 0 where
  at_once : (len : ℕ)
      → SpellsGot (first_standing input.config) (all_events closed ++ part) spelled
      → front (standing_of input.config (all_events closed ++ part)).version rest ≡ Whole m len
      → (IsSimple part → ⊥)
      → (closed ≡ [] → refusal_at input (place_of part) m ≡ None)
      → RefusedAt input ended closed part m spelled rest
  at_ready : (passed : List Backend) → IsQuiet passed → IsSimple part
      → SpellsGot (first_standing input.config)
      ((all_events closed ++ part) ++ map Got (m ∷ passed)) spelled
      → (ready : ReadyForQuery) (len : ℕ)
      → front (standing_of input.config
      ((all_events closed ++ part) ++ map Got (m ∷ passed))).version rest ≡ Whole
      (backend.ReadyForQuery ready) len
      → RefusedAt input ended closed part m spelled rest
  at_the_end : (passed : List Backend) → IsQuiet passed → IsSimple part
      → SpellsGot (first_standing input.config)
      ((all_events closed ++ part) ++ map Got (m ∷ passed)) spelled
      → front (standing_of input.config
      ((all_events closed ++ part) ++ map Got (m ∷ passed))).version rest ≡ More
      → ended → RefusedAt input ended closed part m spelled rest

-- m was got behind a legal prefix, and makes none; ended says that no more bytes come
pub record HasNoPlace (input : Input) (ended : Type 0) (taken sent : List ℕ) (m : Backend) : Type
    0 where
  pub closed : List (List Event)
  pub part : List Event
  pub awaits : IsServersTurn input closed part
  pub spelled : List ℕ
  pub rest : List ℕ
  pub begins : taken ≡ spelled ++ rest
  pub put : EncodesSent (all_events closed ++ part) sent
  pub misplaced : IsLegalPrefix input ((all_events closed ++ part) ++ Got m ∷ []) → ⊥
  pub how : RefusedAt input ended closed part m spelled rest

-- m is the next message behind these events of the startup segment, which is open
pub record NextAtStartup (input : Input) (taken sent : List ℕ) (part : List Event) (m : Backend) :
    Type 0 where
  pub awaits : IsServersTurn input [] part
  pub spelled : List ℕ
  pub rest : List ℕ
  pub len : ℕ
  pub begins : taken ≡ spelled ++ rest
  pub got : SpellsGot (first_standing input.config) part spelled
  pub put : EncodesSent part sent
  pub next : front (standing_of input.config part).version rest ≡ Whole m len

-- a message is next at startup for which this error stands
abbrev pub FailsAtStartup : Input → List ℕ → List ℕ → ClientError → Type 0
FailsAtStartup input taken sent e =
    (part : List Event) × (m : Backend) × (refusal_at input (place_of part) m ≡ Some e)
    × NextAtStartup input taken sent part m

-- the bytes taken end in an open segment, behind its events and maybe messages passed over, within a message
pub record WaitsAt (input : Input) (taken sent : List ℕ) (closed : List (List Event))
    (part : List Event) (passed : List Backend) : Type 0 where
  pub awaits : IsServersTurn input closed part
  pub passes : ArePassedOver input closed part passed
  pub spelled : List ℕ
  pub rest : List ℕ
  pub begins : taken ≡ spelled ++ rest
  pub got : SpellsGot (first_standing input.config)
      ((all_events closed ++ part) ++ map Got passed) spelled
  pub put : EncodesSent (all_events closed ++ part) sent
  pub partial : front (standing_of input.config
      ((all_events closed ++ part) ++ map Got passed)).version rest ≡ More

-- the bytes taken end in an open segment, of which the first error is this
abbrev pub LeftWith : Input → List ℕ → List ℕ → Option ErrorResponse → Type 0
LeftWith input taken sent failed =
    (closed : List (List Event)) × (part : List Event) × WaitsAt input taken sent closed part []
    × (first_error part ≡ failed)

-- a refusal of the decoder is next, behind the events of an open segment and maybe messages passed over
pub record Unreadable (input : Input) (taken sent : List ℕ) (why : PgWireError) : Type 0 where
  pub closed : List (List Event)
  pub part : List Event
  pub passed : List Backend
  pub awaits : IsServersTurn input closed part
  pub passes : ArePassedOver input closed part passed
  pub spelled : List ℕ
  pub rest : List ℕ
  pub begins : taken ≡ spelled ++ rest
  pub got : SpellsGot (first_standing input.config)
      ((all_events closed ++ part) ++ map Got passed) spelled
  pub put : EncodesSent (all_events closed ++ part) sent
  pub next : front (standing_of input.config ((all_events closed ++ part)
      ++ map Got passed)).version rest ≡ Bad why

-- messages are due, the first of which that has no encoding is refused so
pub record Unsendable (input : Input) (taken sent : List ℕ) (why : PgWireError) : Type 0 where
  pub es : List Event
  pub due : List Frontend
  pub spelled : List ℕ
  pub rest : List ℕ
  pub begins : taken ≡ spelled ++ rest
  pub got : SpellsGot (first_standing input.config) es spelled
  pub put : EncodesSent es sent
  pub legal : IsLegalPrefix input (es ++ map Sent due)
  pub unencoded : encodings due ≡ Err why

-- whatever follows these bytes, they complete no transcript
abbrev pub IsHopeless : Input → List ℕ → Type 0
IsHopeless input taken =
    (limit : ℕ) (more : List ℕ) (segments : List (List Event))
    → Completes input limit (taken ++ more) segments → ⊥

-- a message at startup for which this error stands
abbrev pub IsRefused : Input → List ℕ → List ℕ → ClientError → Type 0
IsRefused input taken sent e = FailsAtStartup input taken sent e × IsHopeless input taken

-- no front of these bytes completes a transcript
abbrev pub IsUnfinished : Input → List ℕ → Type 0
IsUnfinished input taken =
    (segments : List (List Event)) → Completes input (length taken) taken segments → ⊥

-- What it means that no more bytes come: a message was passed over, that first; or the open segment has an error; or it
-- has none.
abbrev pub EndsAs : Input → List ℕ → List ℕ → ClientError → Type 0
EndsAs input taken sent (client.UnexpectedMessage m) =
    HasNoPlace input (Unit {0}) taken sent m × IsHopeless input taken
EndsAs input taken sent (client.RemoteError e) =
    LeftWith input taken sent (Some e) × IsUnfinished input taken
EndsAs input taken sent client.UnexpectedEOF =
    LeftWith input taken sent None × IsUnfinished input taken
EndsAs input taken sent e = ⊥

-- ---- whatever comes

-- the bytes taken end within a message, with nothing due, and complete no transcript
abbrev pub WaitsStill : Input → List ℕ → List ℕ → Type 0
WaitsStill input taken sent =
    ((closed : List (List Event)) × (part : List Event) × (passed : List Backend) × WaitsAt input
    taken sent closed part passed)
    × IsUnfinished input taken

-- What the bytes taken tell, and all that is to be sent by then: they complete a session; a message of them has no
-- place; they can't be read; a message that is due has no encoding; an error of its own stands for a message of the
-- startup segment; or they end within a message.
pub data BytesTell (input : Input) (taken due : List ℕ) : Type 0 where
  complete : (report : SessionReport) → Completed input taken due report
      → BytesTell input taken due
  misplaced : (m : Backend) → HasNoPlace input ⊥ taken due m → BytesTell input taken due
  unreadable : (why : PgWireError) → Unreadable input taken due why → BytesTell input taken due
  unsendable : (why : PgWireError) → Unsendable input taken due why → BytesTell input taken due
  refused : (e : ClientError) → FailsAtStartup input taken due e → BytesTell input taken due
  waiting : WaitsStill input taken due → BytesTell input taken due
