-- What a client stands for, from its login on: the requests that were made, the bytes read and the bytes written.
use Rattle.std.specs.Prelude.{◌≡◌, ◌⊎◌, ℕ, Bool, true, false, List, [], ◌∷◌, ◌++◌, Result, Ok, Err}
use Rattle.pgw_backend.specs.declared.backend.PgWireBackendMessage.{PgWireBackendMessage as Backend}
use Rattle.pgw_backend.specs.declared.client_error.PgWireClientError.{PgWireClientError as ClientError}
use Rattle.pgw_backend.specs.declared.client_error.PgWireClientError.TheVariants as client
use Rattle.pgw_config.specs.declared.config.Config.{Config}
use Rattle.pgw_session.specs.declared.types.Request.{Request}
use Rattle.pgw_session.specs.declared.types.Answer.{Answer}
use Rattle.pgw_session.specs.declared.types.Answer.TheVariants as answer
use Rattle.pgw_session.specs.Input.{Input, input_with}
use Rattle.pgw_session.specs.Events.{Event, all_events}
use Rattle.pgw_session.specs.Standings.{first_standing, standing_of}
use Rattle.pgw_session.specs.Requests.{kind_of, passes_over}
use Rattle.pgw_session.specs.Segments.{IsStartupSegment, IsRequestSegment}
use Rattle.pgw_session.specs.Transcript.{IsTranscript, SpellsGot, EncodesSent}
use Rattle.pgw_handlers.specs.Client.{Client}
use Rattle.pgw_client_calls.specs.Talk.{Next}
use Rattle.pgw_client_laws.specs.Turns.{knowing, AreExchanged, IsAnswered, IsPassedSegment, IsCallFront, IsOpenFor, Opened}

-- what a client logs in with
abbrev pub login : Config → List ℕ → Input
login config nonce = input_with config [] nonce

-- a request that was made, and the events of its call
pub record Made : Type 0 where
  pub request : Request
  pub events : List Event

abbrev pub made_call : Request → List Event → Made
made_call q es = record { request = q; events = es }

-- they are its segment, or one that was passed over
abbrev pub IsMade : Made → Type 0
IsMade t =
    IsRequestSegment t.request t.events ⊎ ((m : Backend) × IsPassedSegment t.request m t.events)

abbrev pub AreMade : List Made → Type 0
AreMade [] = Unit {0}
AreMade (t ∷ ts) = IsMade t × AreMade ts

abbrev pub events_of : List Made → List Event
events_of [] = []
events_of (t ∷ ts) = t.events ++ events_of ts

-- A login and these requests were made: of the bytes read those in the buffer are left, and the client knows what the
-- others tell.
pub record StandsForCalls (config : Config) (nonce : List ℕ) (ts : List Made)
    (read wrote : List ℕ) (c : Client) (buffer : List ℕ) : Type 0 where
  pub startup : List Event
  pub begins : IsStartupSegment (login config nonce) startup
  pub are : AreMade ts
  pub exchanged : AreExchanged config (first_standing config) read wrote (startup ++ events_of ts)
      c buffer

-- one request more was made, whose events are so
abbrev pub OneMore : Config → List ℕ → List Made → Request → (List Event → Type 0) → List ℕ
    → List ℕ → Client → List ℕ → Type 0
OneMore config nonce ts q property read wrote c buffer =
    (es : List Event) × property es
    × StandsForCalls config nonce (ts ++ made_call q es ∷ []) read wrote c buffer

-- A login and these requests were made, and behind them these events of one request more.
pub record StandsCut (config : Config) (nonce : List ℕ) (ts : List Made)
    (property : List Event → Type 0) (read wrote : List ℕ) (c : Client) (buffer : List ℕ) : Type 0
  where
    pub startup : List Event
    pub begins : IsStartupSegment (login config nonce) startup
    pub are : AreMade ts
    pub events : List Event
    pub front : property events
    pub exchanged : AreExchanged config (first_standing config) read wrote
        (startup ++ (events_of ts ++ events)) c buffer

-- a message has no place: where others are passed over behind it, it was taken; else it is next
abbrev pub MisplacedBehind : Bool → Config → List ℕ → List Made → Request → List ℕ → List ℕ
    → Client → List ℕ → Backend → Type 0
MisplacedBehind true config nonce ts q read wrote c buffer m =
    StandsCut config nonce ts (IsCallFront q (client.UnexpectedMessage m)) read wrote c buffer
MisplacedBehind false config nonce ts q read wrote c buffer m =
    (left : List ℕ)
    × StandsCut config nonce ts (Opened q (IsOpenFor (kind_of q) false m)) read wrote c left
    × Next c left m buffer

-- What a client stands for that a call's error left unusable: the requests made before, and a front of this one's segment.
-- After IoError some of what is due in it may not be written. Of want of memory nothing is told.
abbrev pub BrokenBehind : Config → List ℕ → List Made → Request → List ℕ → List ℕ → Client
    → List ℕ → ClientError → Type 0
BrokenBehind config nonce ts q read wrote c buffer client.OutOfMemory = Unit {0}
BrokenBehind config nonce ts q read wrote c buffer client.IoError =
    (lost : List ℕ) × (e : ClientError)
    × StandsCut config nonce ts (IsCallFront q e) read (wrote ++ lost) c buffer
BrokenBehind config nonce ts q read wrote c buffer client.ReadLimit =
    (e : ClientError) × StandsCut config nonce ts (IsCallFront q e) read wrote c buffer
BrokenBehind config nonce ts q read wrote c buffer (client.PgWireError why) =
    (e : ClientError) × StandsCut config nonce ts (IsCallFront q e) read wrote c buffer
BrokenBehind config nonce ts q read wrote c buffer client.UnexpectedEOF =
    StandsCut config nonce ts (IsCallFront q client.UnexpectedEOF) read wrote c buffer
BrokenBehind config nonce ts q read wrote c buffer (client.RemoteError e) =
    StandsCut config nonce ts (IsCallFront q (client.RemoteError e)) read wrote c buffer
BrokenBehind config nonce ts q read wrote c buffer (client.UnexpectedMessage m) =
    MisplacedBehind (passes_over (kind_of q)) config nonce ts q read wrote c buffer m
BrokenBehind config nonce ts q read wrote c buffer e = ⊥

-- What a client stands for behind a call: one request more, answered by its own segment, or none where it has no
-- encoding; or a front of one more, where it cannot be used any more.
abbrev pub StandsBehind : {A : Type 0} → (A → Answer) → Config → List ℕ → List Made → Request
    → List ℕ → List ℕ → Client → List ℕ → Result A ClientError → Bool → Type 0
StandsBehind give config nonce ts q read wrote c buffer (Ok x) true = ⊥
StandsBehind give config nonce ts q read wrote c buffer (Err e) true =
    BrokenBehind config nonce ts q read wrote c buffer e
StandsBehind give config nonce ts q read wrote c buffer (Ok x) false =
    OneMore config nonce ts q (IsAnswered q (give x)) read wrote c buffer
StandsBehind give config nonce ts q read wrote c buffer (Err (client.RemoteError e)) false =
    OneMore config nonce ts q (IsAnswered q (answer.Remote e)) read wrote c buffer
StandsBehind give config nonce ts q read wrote c buffer (Err (client.UnexpectedMessage m)) false =
    OneMore config nonce ts q (IsPassedSegment q m) read wrote c buffer
StandsBehind give config nonce ts q read wrote c buffer (Err (client.PgWireError why)) false =
    StandsForCalls config nonce ts read wrote c buffer
StandsBehind give config nonce ts q read wrote c buffer (Err e) false = ⊥

-- ---- a client as a session

abbrev pub requests_of : List Made → List Request
requests_of [] = []
requests_of (t ∷ ts) = t.request ∷ requests_of ts

abbrev pub segments_of : List Made → List (List Event)
segments_of [] = []
segments_of (t ∷ ts) = t.events ∷ segments_of ts

-- each request has its own segment, and none was passed over
abbrev pub AreAnswered : List Made → Type 0
AreAnswered [] = Unit {0}
AreAnswered (t ∷ ts) = IsRequestSegment t.request t.events × AreAnswered ts

-- what the session of these requests is given
abbrev pub session : Config → List ℕ → List Made → Input
session config nonce ts = input_with config (requests_of ts) nonce

-- The session's transcript: of the bytes read those in the buffer are left, those before spell the messages got, those
-- written are the encodings of the messages sent, and the client knows what all of it tells.
pub record IsSession (config : Config) (nonce : List ℕ) (ts : List Made) (read wrote : List ℕ)
    (c : Client) (buffer : List ℕ) : Type 0 where
  pub startup : List Event
  pub transcript : IsTranscript (session config nonce ts) (startup ∷ segments_of ts)
  pub spelled : List ℕ
  pub begins : read ≡ spelled ++ buffer
  pub got : SpellsGot (first_standing config) (all_events (startup ∷ segments_of ts)) spelled
  pub put : EncodesSent (all_events (startup ∷ segments_of ts)) wrote
  pub knows : c ≡ knowing config (standing_of config (all_events (startup ∷ segments_of ts)))
