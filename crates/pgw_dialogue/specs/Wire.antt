-- What reading and writing messages answers. No clause of `run_session` on transcripts cites it; the claims on dialogues
-- rest on it.
use Rattle.std.specs.Prelude.{◌≡◌, ℕ, codes, List, ◌++◌, drop, Option, Some, None, Result, Ok, Err}
use Rattle.pgw_types.specs.declared.error.PgWireError.{PgWireError}
use Rattle.pgw_types.specs.declared.context.ProtocolVersion.{ProtocolVersion}
use Rattle.pgw_backend.specs.Front.{front, More, Bad, Whole}
use Rattle.pgw_backend.specs.declared.backend.PgWireBackendMessage.{PgWireBackendMessage as Backend}
use Rattle.pgw_backend.specs.declared.client_error.PgWireClientError.{PgWireClientError as ClientError}
use Rattle.pgw_backend.specs.declared.client_error.PgWireClientError.TheVariants as client

-- ---- errors by where they come from

-- a fact of every error but want of memory, which is free
abbrev pub Unless : ClientError → Type 0 → Type 0
Unless e fact = (e ≡ client.OutOfMemory → ⊥) → fact

-- no demand of the configuration is named: of its keys the user name alone, which may have no prepared form
abbrev pub IsNoDemand : ClientError → Type 0
IsNoDemand (client.InvalidConfig key) = key ≡ codes "user"
IsNoDemand e = Unit {0}

-- an error of the messages, and not of a demand, the link or the limit
abbrev pub IsOwn : ClientError → Type 0
IsOwn (client.InvalidConfig key) = key ≡ codes "user"
IsOwn client.UnexpectedEOF = ⊥
IsOwn client.IoError = ⊥
IsOwn client.ReadLimit = ⊥
IsOwn e = Unit {0}

-- what the link's end can mean
abbrev pub IsEndError : ClientError → Type 0
IsEndError client.OutOfMemory = Unit {0}
IsEndError client.UnexpectedEOF = Unit {0}
IsEndError (client.RemoteError m) = Unit {0}
IsEndError (client.UnexpectedMessage m) = Unit {0}
IsEndError e = ⊥

-- ---- messages

-- what stood at the front, and what is left behind it
abbrev pub Decoded : ProtocolVersion → List ℕ → List ℕ → Result (Option Backend) ClientError
    → Type 0
Decoded version old new (Ok None) = (new ≡ old) × (front version old ≡ More)
Decoded version old new (Ok (Some m)) =
    (len : ℕ) × (front version old ≡ Whole m len) × (new ≡ drop len old)
Decoded version old new (Err e) =
    (new ≡ old)
    × Unless e ((why : PgWireError) × (front version old ≡ Bad why) ×
    (e ≡ client.PgWireError why))

-- the bytes were appended, or there are none
abbrev pub PutOut : Result (List ℕ) PgWireError → List ℕ → List ℕ → Result Unit ClientError
    → Type 0
PutOut spelled old new (Ok done) = (bytes : List ℕ) × (spelled ≡ Ok bytes) × (new ≡ old ++ bytes)
PutOut spelled old new (Err e) =
    (new ≡ old)
    × Unless e ((why : PgWireError) × (spelled ≡ Err why) × (e ≡ client.PgWireError why))
