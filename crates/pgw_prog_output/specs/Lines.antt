-- The messages that stand in the bytes of a server.
use Rattle.std.specs.Prelude.{◌≡◌, ◌<◌, ℕ, ◌+◌, List, ◌∷◌, [], ◌++◌, length, drop, Bool, true}
use Rattle.std.specs.Prelude.{false}
use Rattle.std.specs.Prelude.{Option, Some, None, Result, Ok, Err}
use Rattle.pgw_types.specs.declared.context.ProtocolVersion.{ProtocolVersion}
use Rattle.pgw_types.specs.declared.error.PgWireError.{PgWireError}
use Rattle.pgw_types.specs.Counts.{Rose}
use Rattle.pgw_backend.specs.declared.backend.PgWireBackendMessage.{PgWireBackendMessage as Backend}
use Rattle.pgw_backend.specs.declared.client_error.PgWireClientError.{PgWireClientError as ClientError}
use Rattle.pgw_backend.specs.declared.client_error.PgWireClientError.TheVariants as client
use Rattle.pgw_backend.specs.Front.{front, More, Bad, Whole}
use Rattle.pgw_frontend.specs.declared.frontend.PgWireFrontendMessage.TheVariants as frontend
use Rattle.pgw_frontend.specs.Frontend.{encoding}

-- these messages stand whole at the front of the bytes, one behind the other, and this behind them
pub data Stand (version : ProtocolVersion) : List ℕ → List Backend → List ℕ → Type 0 where
  none : (bytes : List ℕ) → Stand version bytes [] bytes
  next : (bytes : List ℕ) (m : Backend) (len : ℕ) (more : List Backend) (rest : List ℕ)
      → front version bytes ≡ Whole m len → Stand version (drop len bytes) more rest
      → Stand version bytes (m ∷ more) rest

-- What is told of a client and of the bytes between it and its server: all that came, those of them
-- that were not taken yet, all that were sent, the version by which messages are read, how many
-- bytes may come yet, how often the server's end was told, how many calls failed, and whether an
-- error has left the client unusable.
pub record ServerLine : Type 0 where
  pub came : List ℕ
  pub buffer : List ℕ
  pub sent : List ℕ
  pub version : ProtocolVersion
  pub left : ℕ
  pub ended : ℕ
  pub faults : ℕ
  pub broken : Bool

-- no message stands whole at the front of the bytes that were not taken, and more bytes are needed
abbrev pub NeedsBytes : ServerLine → Type 0
NeedsBytes l = front l.version l.buffer ≡ More

-- ---- taking a message

-- why none is taken: memory ran out; the bytes at the front are no message, and this is their
-- refusal; or the client was unusable
abbrev pub IsUnreadCause : ServerLine → ClientError → Type 0
IsUnreadCause l client.OutOfMemory = Unit {0}
IsUnreadCause l (client.PgWireError why) = front l.version l.buffer ≡ Bad why
IsUnreadCause l client.Broken = l.broken ≡ true
IsUnreadCause l e = ⊥

-- none is whole yet; or the message at the front was taken; or none can be
abbrev pub LineTakes : ServerLine → ServerLine → Result (Option Backend) ClientError → Type 0
LineTakes old new (Ok None) = NeedsBytes old × (new ≡ old)
LineTakes old new (Ok (Some m)) = (len : ℕ) × (front old.version old.buffer ≡ Whole m len)
    × (new ≡ record old { buffer = drop len old.buffer })
LineTakes old new (Err e) = IsUnreadCause old e × (new ≡ record old { broken = true })

-- ---- waiting for more bytes

-- one or more bytes came, and stand behind those that were not taken
pub record Grows (old new : ServerLine) : Type 0 where
  pub bytes : List ℕ
  pub some : 0 < length bytes
  pub left : new.left + length bytes ≡ old.left
  pub line : new ≡ record old {
    came = old.came ++ bytes;
    buffer = old.buffer ++ bytes;
    left = new.left;
  }

-- these bytes came, and could not be kept
pub record Spills (old new : ServerLine) : Type 0 where
  pub bytes : List ℕ
  pub line : new ≡ record old { came = old.came ++ bytes; left = new.left; broken = true }

-- bytes came; or the server's end was told; or they could not be kept, a call failed, no more may
-- come, or the client was unusable
abbrev pub LineFills : ServerLine → ServerLine → Result Bool ClientError → Type 0
LineFills old new (Ok true) = Grows old new
LineFills old new (Ok false) = new ≡ record old { ended = old.ended + 1 }
LineFills old new (Err client.OutOfMemory) = Spills old new
LineFills old new (Err client.IoError) = Rose old.faults new.faults
    × (new ≡ record old { faults = new.faults; broken = true })
LineFills old new (Err client.ReadLimit) = (old.left ≡ 0) × (new ≡ record old { broken = true })
LineFills old new (Err client.Broken) = (old.broken ≡ true) × (new ≡ old)
LineFills old new (Err e) = ⊥

-- ---- asking

-- the bytes of a query, as a simple one, or why it has none
abbrev pub simple_query_bytes : List ℕ → Result (List ℕ) PgWireError
simple_query_bytes query = encoding (frontend.Query (record { query = query }))

abbrev pub query_bytes_or_none : Result (List ℕ) PgWireError → List ℕ
query_bytes_or_none (Ok bytes) = bytes
query_bytes_or_none (Err e) = []

-- the query was sent as it is, by a client that can be used
pub record AsksQuery (query : List ℕ) (old new : ServerLine) : Type 0 where
  pub bytes : List ℕ
  pub spelled : simple_query_bytes query ≡ Ok bytes
  pub usable : old.broken ≡ false
  pub line : new ≡ record old { sent = old.sent ++ bytes; faults = new.faults }

-- a front of it was sent, and nothing else was done with the bytes
pub record AsksSome (query : List ℕ) (old new : ServerLine) : Type 0 where
  pub front : List ℕ
  pub behind : List ℕ
  pub cut : query_bytes_or_none (simple_query_bytes query) ≡ front ++ behind
  pub line : new ≡ record old {
    sent = old.sent ++ front;
    faults = new.faults;
    broken = new.broken;
  }

-- why it was not sent whole: a call failed, memory ran out, it has no bytes, or the client was
-- unusable
abbrev pub QueryNotAsked : List ℕ → ServerLine → ServerLine → ClientError → Type 0
QueryNotAsked query old new client.IoError = AsksSome query old new × Rose old.faults new.faults
QueryNotAsked query old new client.OutOfMemory = AsksSome query old new
QueryNotAsked query old new (client.PgWireError why) = (simple_query_bytes query ≡ Err why)
    × (new ≡ record old { faults = new.faults })
QueryNotAsked query old new client.Broken = (old.broken ≡ true)
    × (new ≡ record old { faults = new.faults })
QueryNotAsked query old new e = ⊥

abbrev pub SendsQuery : List ℕ → ServerLine → ServerLine → Result (Unit {0}) ClientError → Type 0
SendsQuery query old new (Ok done) = AsksQuery query old new
SendsQuery query old new (Err e) = QueryNotAsked query old new e

-- ---- what an answer comes to

-- these bytes came, and nothing was sent
pub record LineBytesCame (bytes : List ℕ) (old new : ServerLine) : Type 0 where
  pub came : new.came ≡ old.came ++ bytes
  pub sent : new.sent ≡ old.sent
  pub version : new.version ≡ old.version

-- the end was not told, no call failed, and the client is as usable as before
pub record Calm (old new : ServerLine) : Type 0 where
  pub ended : new.ended ≡ old.ended
  pub faults : new.faults ≡ old.faults
  pub broken : new.broken ≡ old.broken

-- why no more bytes come, by what is told of it: the end was told, a call failed, or no more may
-- come
abbrev pub IsDry : ServerLine → ServerLine → ClientError → Type 0
IsDry old new client.UnexpectedEOF = new.ended ≡ old.ended + 1
IsDry old new client.IoError = Rose old.faults new.faults
IsDry old new client.ReadLimit = new.left ≡ 0
IsDry old new e = ⊥

-- Why no further message is heard: what was not taken is no message, or a part of one behind which
-- no more bytes come; or the client was unusable.
pub data IsLost (old new : ServerLine) : Type 0 where
  unreadable : (why : PgWireError) → front new.version new.buffer ≡ Bad why → IsLost old new
  cut_off : (e : ClientError) → NeedsBytes new → IsDry old new e → IsLost old new
  unusable : old.broken ≡ true → IsLost old new
