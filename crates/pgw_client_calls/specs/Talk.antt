-- What a call of a client comes to, by the meaning of its handler: over the bytes that stood in the client's buffer and
-- those that were read, and the bytes written.
use Rattle.std.specs.Prelude.{◌≡◌, ◌≢◌, ℕ, Bool, true, false, List, [], ◌++◌, drop, Result, Ok, Err}
use Rattle.std.specs.FinMap as map
use Rattle.pgw_backend.specs.Front.{front, More, Bad, Whole}
use Rattle.pgw_types.specs.declared.error.PgWireError.{PgWireError}
use Rattle.pgw_backend.specs.declared.backend.PgWireBackendMessage.{PgWireBackendMessage as Backend}
use Rattle.pgw_backend.specs.declared.backend.PgWireBackendMessage.TheVariants as backend
use Rattle.pgw_backend.specs.declared.client_error.PgWireClientError.{PgWireClientError as ClientError}
use Rattle.pgw_backend.specs.declared.client_error.PgWireClientError.TheVariants as client
use Rattle.pgw_session.specs.Segments.{is_ready}
use Rattle.pgw_handlers.specs.Client.{Client, Sight}
use Rattle.pgw_handlers.specs.Handling.{HandlerView, standing, CallAnswer, IsCaused}
use Rattle.pgw_handlers.specs.declared.client_info.ReadyState.{ReadyState}
use Rattle.pgw_handlers.specs.declared.client_info.ReadyState.TheVariants.{Pending, Ready}
use Rattle.pgw_client_calls.specs.Line.{Reasons}

-- What a handler sees of a client as one of its functions is called: nothing sent yet, and a client that can be used.
abbrev pub fresh : Client → Sight
fresh c = record { client = c; wrote = []; flushed = 0; broken = false }

-- how a call ended: its answer, what the client knows, whether it cannot be used any more, and the bytes left in its buffer
pub record CallEnd (A : Type 0) : Type 0 where
  pub answer : Result A ClientError
  pub info : Client
  pub broken : Bool
  pub rest : List ℕ

abbrev pub end : {A : Type 0} → Result A ClientError → Client → Bool → List ℕ → CallEnd A
end answer info broken rest =
    record { answer = answer; info = info; broken = broken; rest = rest }

-- a message stands at the front of the bytes, and these are left behind it
abbrev pub Next : Client → List ℕ → Backend → List ℕ → Type 0
Next c bytes m rest =
    (len : ℕ) × (front c.protocol_version bytes ≡ Whole m len) × (rest ≡ drop len bytes)

-- Why no message was taken: the bytes cannot be read; or they end within a message, and no more came, of which P says
-- why; or memory was wanting, and then the bytes left are not told.
pub data Lack (P : Reasons) (c : Client) (bytes : List ℕ) : List ℕ → ClientError → Type 0 where
  unread : (why : PgWireError) → front c.protocol_version bytes ≡ Bad why
      → Lack P c bytes bytes (client.PgWireError why)
  halts : (e : ClientError) → front c.protocol_version bytes ≡ More → P.halts e
      → Lack P c bytes bytes e
  starves : (rest : List ℕ) → Lack P c bytes rest client.OutOfMemory

-- ---- behind an error the messages are passed over up to ReadyForQuery

-- what a message that is passed over tells of the connection
abbrev pub client_after : Backend → Client → Client
client_after (backend.ParameterStatus m) c =
    record c { parameters = map.insert c.parameters m.name m.value }
client_after (backend.ReadyForQuery m) c = record c { transaction_status = m.status }
client_after m c = c

-- the link's end leaves the error as it is; another failure is answered in its place
abbrev pub in_place_of : ClientError → ClientError → ClientError
in_place_of e client.UnexpectedEOF = e
in_place_of e x = x

-- where no error stands yet, which the link's end would be, the server's first is kept
abbrev pub first_error_of : ClientError → Backend → ClientError
first_error_of client.UnexpectedEOF (backend.ErrorResponse m) = client.RemoteError m
first_error_of e m = e

-- From an error (UnexpectedEOF: none yet), what the client knows and the bytes to come, to the error behind them, what the
-- client knows then, the bytes left, and whether it cannot be used any more.
pub data Passing (P : Reasons) : ClientError → Client → List ℕ → ClientError → Client → List ℕ
    → Bool → Type 0 where
  lacks : (e : ClientError) (c : Client) (bytes rest : List ℕ) (x : ClientError)
      → Lack P c bytes rest x → Passing P e c bytes (in_place_of e x) c rest true
  closes : (e : ClientError) (c : Client) (bytes : List ℕ) (m : Backend) (rest : List ℕ)
      → Next c bytes m rest → is_ready m ≡ true
      → Passing P e c bytes e (client_after m c) rest false
  goes : (e : ClientError) (c : Client) (bytes : List ℕ) (m : Backend) (rest : List ℕ)
      (x : ClientError) (last : Client) (left : List ℕ) (broken : Bool) →
      Next c bytes m rest → is_ready m ≡ false
      → Passing P (first_error_of e m) (client_after m c) rest x last left broken
      → Passing P e c bytes x last left broken
  starves : (e : ClientError) (c : Client) (bytes rest : List ℕ)
      → Passing P e c bytes client.OutOfMemory c rest true

-- an error behind which a client goes on, once ReadyForQuery has come
abbrev pub passes : ClientError → Bool
passes (client.RemoteError e) = true
passes (client.UnexpectedMessage m) = true
passes e = false

-- the server's error
abbrev pub is_remote : ClientError → Bool
is_remote (client.RemoteError e) = true
is_remote e = false

-- ---- the messages of a call, handed to its handler

-- What hearing a message means: `HeardInQuery` or `HeardAtStartup` over a handler's meaning.
abbrev pub Hearing : Type 0 → Type 0 → Type 1
Hearing H A = HandlerView H → Backend → HandlerView H → CallAnswer A → Type 0

-- A piece of which this part was written, which P says why. It may be all of it, where it was not flushed. (An empty
-- piece is neither written nor flushed.)
abbrev pub IsCutPiece : Reasons → List ℕ → List ℕ → Type 0
IsCutPiece P bytes part = (bytes ≢ []) × (lost : List ℕ) × (bytes ≡ part ++ lost) × P.unsent lost

-- From a handler and what the client knows, over the bytes to come, to the bytes written and the end. P says why no more
-- bytes came, and why bytes were not written; `goes_on` behind which errors a client goes on.
pub data CallTalk {H A : Type 0} (M : Hearing H A) (P : Reasons) (goes_on : ClientError → Bool) :
    H
    → Client → List ℕ → List ℕ → CallEnd A → Type 0 where
  lacks : (h : H) (c : Client) (bytes rest : List ℕ) (e : ClientError) → Lack P c bytes rest e
      → CallTalk M P goes_on h c bytes [] (end (Err e) c true rest)
  -- a message is heard, what the handler sent is written, and the call goes on; that is no ReadyForQuery
  hears : (h : H) (c : Client) (bytes : List ℕ) (m : Backend) (rest : List ℕ)
      (after : HandlerView H) (sent : List ℕ) (last : CallEnd A) →
      Next c bytes m rest → M (standing h (fresh c)) m after (Ok Pending)
      → after.sight.broken ≡ false → is_ready m ≡ false →
      CallTalk M P goes_on after.handler after.sight.client rest sent last
      → CallTalk M P goes_on h c bytes (after.sight.wrote ++ sent) last
  -- the last message, which is ReadyForQuery
  closes : (h : H) (c : Client) (bytes : List ℕ) (m : Backend) (rest : List ℕ)
      (after : HandlerView H) (x : A) →
      Next c bytes m rest → M (standing h (fresh c)) m after (Ok (Ready x))
      → after.sight.broken ≡ false → is_ready m ≡ true →
      CallTalk M P goes_on h c bytes after.sight.wrote (end (Ok x) after.sight.client false rest)
  -- what the handler sent was not written whole, or not flushed
  unwritten : (h : H) (c : Client) (bytes : List ℕ) (m : Backend) (rest : List ℕ)
      (after : HandlerView H) (answer : ReadyState A) (part : List ℕ) →
      Next c bytes m rest → M (standing h (fresh c)) m after (Ok answer)
      → after.sight.broken ≡ false → IsCutPiece P after.sight.wrote part →
      CallTalk M P goes_on h c bytes part (end (Err client.IoError) after.sight.client true rest)
  -- the handler's error ends the client; what it sent is not written. By itself it makes no IoError, since a desk's faults
  -- stay 0.
  breaks : (h : H) (c : Client) (bytes : List ℕ) (m : Backend) (rest : List ℕ)
      (after : HandlerView H) (e : ClientError) →
      Next c bytes m rest → M (standing h (fresh c)) m after (Err e)
      → IsCaused e 0 0 after.sight.broken → goes_on e ≡ false → after.sight.broken ≡ false →
      CallTalk M P goes_on h c bytes [] (end (Err e) after.sight.client true rest)
  -- it ends the call alone: behind ReadyForQuery at once,
  fails : (h : H) (c : Client) (bytes : List ℕ) (m : Backend) (rest : List ℕ)
      (after : HandlerView H) (e : ClientError) →
      Next c bytes m rest → M (standing h (fresh c)) m after (Err e) → goes_on e ≡ true
      → after.sight.broken ≡ false → is_ready m ≡ true →
      CallTalk M P goes_on h c bytes [] (end (Err e) after.sight.client false rest)
  -- else once that has come
  passes_over : (h : H) (c : Client) (bytes : List ℕ) (m : Backend) (rest : List ℕ)
      (after : HandlerView H) (e x : ClientError) (last : Client) (left : List ℕ) (broken : Bool)
      →
      Next c bytes m rest → M (standing h (fresh c)) m after (Err e) → goes_on e ≡ true
      → after.sight.broken ≡ false → is_ready m ≡ false →
      Passing P e after.sight.client rest x last left broken
      → CallTalk M P goes_on h c bytes [] (end (Err x) last broken left)
  -- memory was wanting, in the client or in what the handler sent
  starves : (h : H) (c : Client) (bytes : List ℕ) (last : Client) (rest : List ℕ)
      → CallTalk M P goes_on h c bytes [] (end (Err client.OutOfMemory) last true rest)

-- ---- a call

-- a refusal of the opening is the encoder's
abbrev pub is_refusal : ClientError → Bool
is_refusal (client.PgWireError why) = true
is_refusal e = false

-- The handler opens a call, and its opening is written as one piece before the first message is heard. `opens` is the
-- handler's meaning of the opening function.
pub data OpensTalk {H A : Type 0} (opens : HandlerView H → HandlerView H → CallAnswer A → Type 0)
    (M : Hearing H A) (P : Reasons) (goes_on : ClientError → Bool) (h : H) (c : Client)
    (bytes : List ℕ) : List ℕ
    → CallEnd A → Type 0 where
  opened : (after : HandlerView H) (sent : List ℕ) (last : CallEnd A)
      → opens (standing h (fresh c)) after (Ok Pending) → after.sight.broken ≡ false →
      CallTalk M P goes_on after.handler after.sight.client bytes sent last
      → OpensTalk opens M P goes_on h c bytes (after.sight.wrote ++ sent) last
  unwritten : (after : HandlerView H) (part : List ℕ)
      → opens (standing h (fresh c)) after (Ok Pending) → after.sight.broken ≡ false
      → IsCutPiece P after.sight.wrote part →
      OpensTalk opens M P goes_on h c bytes part
      (end (Err client.IoError) after.sight.client true bytes)
  -- nothing is written; where the encoder refuses a message, the client stays usable
  refused : (after : HandlerView H) (e : ClientError) → opens (standing h (fresh c)) after (Err e)
      → is_refusal e ≡ true → after.sight.broken ≡ false →
      OpensTalk opens M P goes_on h c bytes [] (end (Err e) after.sight.client false bytes)
  breaks : (after : HandlerView H) (e : ClientError) → opens (standing h (fresh c)) after (Err e)
      → IsCaused e 0 0 after.sight.broken → is_refusal e ≡ false → after.sight.broken ≡ false →
      OpensTalk opens M P goes_on h c bytes [] (end (Err e) after.sight.client true bytes)
  starves : (last : Client) (rest : List ℕ)
      → OpensTalk opens M P goes_on h c bytes [] (end (Err client.OutOfMemory) last true rest)
