-- A client's bytes, and why no more of them came.
use Rattle.std.specs.Prelude.{◌≡◌, ◌⊎◌, ◌<◌, ◌≤◌, ℕ, ◌+◌, List, [], ◌∷◌, ◌++◌, length, Option}
use Rattle.pgw_backend.specs.Front.{front, More}
use Rattle.pgw_backend.specs.declared.client_error.PgWireClientError.{PgWireClientError as ClientError}
use Rattle.pgw_backend.specs.declared.client_error.PgWireClientError.TheVariants as client
use Rattle.pgw_types.specs.Counts.{Rose}
use Rattle.pgw_link.specs.Tape.{Tape}
use Rattle.pgw_link.specs.Foresight.{Foreseen, TapeEnds}
use Rattle.pgw_handlers.specs.Client.{Client}

-- what the link of a client tells, how many of its calls failed, the bytes that were read and not taken yet, how many
-- were read, and how many may be
pub record Line : Type 0 where
  pub tape : Tape
  pub faults : ℕ
  pub buffer : List ℕ
  pub read : ℕ
  pub limit : ℕ

abbrev pub line : Tape → ℕ → List ℕ → ℕ → ℕ → Line
line tape faults buffer read limit =
    record { tape = tape; faults = faults; buffer = buffer; read = read; limit = limit }

-- the link has ended: it was asked for more behind these answers of its end, and answered its end
pub record IsAtEnd (ended : List ℕ) (now : Line) : Type 0 where
  pub below : now.read < now.limit
  pub asked : (n : ℕ) × (now.tape.ended ≡ ended ++ n ∷ [])

-- all that was written is flushed
abbrev pub IsFlushed : Line → Type 0
IsFlushed now = now.tape.flushed ≡ length now.tape.wrote

-- no more than so many bytes were read, and no more may be
abbrev pub IsWithin : ℕ → Line → Type 0
IsWithin limit now = (now.limit ≡ limit) × (now.read ≤ limit)

-- the limit stays; if no more than the limit had been read, no more is read now
pub record StaysWithin (old new : Line) : Type 0 where
  pub limit : new.limit ≡ old.limit
  pub within : old.read ≤ old.limit → new.read ≤ new.limit

-- the link's calls went well, and all that was written is flushed, if all was before
abbrev pub WentWell : Line → Line → Type 0
WentWell old new = (new.faults ≡ old.faults) × (IsFlushed old → IsFlushed new)

-- they did, and all that was written is flushed
abbrev pub EndedWell : Line → Line → Type 0
EndedWell old new = (new.faults ≡ old.faults) × IsFlushed new

-- Why a call does not go on: why no more bytes came, by the error that is answered; and why these last bytes of a piece
-- were not written, or, where there are none, the piece was not flushed.
pub record Reasons : Type 1 where
  pub halts : ClientError → Type 0
  pub unsent : List ℕ → Type 0

-- by the faults and the answers of the end before a call, and what the call left
abbrev pub HaltsBy : ℕ → List ℕ → Line → ClientError → Type 0
HaltsBy before ended now client.IoError = Rose before now.faults
HaltsBy before ended now client.ReadLimit = now.read ≡ now.limit
HaltsBy before ended now client.UnexpectedEOF = IsAtEnd ended now
HaltsBy before ended now e = ⊥

abbrev pub IsUnsent : ℕ → Line → List ℕ → Type 0
IsUnsent before now lost = Rose before now.faults × (lost ≡ [] → IsFlushed now → ⊥)

abbrev pub Pause : Line → Line → Reasons
Pause old new =
    record { halts = HaltsBy old.faults old.tape.ended new; unsent = IsUnsent old.faults new }

-- the link's end was not answered
abbrev pub NotEnded : Line → Line → Type 0
NotEnded old new = new.tape.ended ≡ old.tape.ended

-- or it was once, so many bytes had been flushed, and a message was still awaited
abbrev pub Halts : Client → ℕ → Line → Line → Type 0
Halts c flushed old new =
    NotEnded old new
    ⊎ ((new.tape.ended ≡ old.tape.ended ++ flushed ∷ []) ×
    (front c.protocol_version new.buffer ≡ More))

-- a fact that holds where the link's end was answered
abbrev pub AtEnd : Line → Line → Type 0 → Type 0
AtEnd old new fact = NotEnded old new ⊎ fact

-- these bytes were read, and nothing was written
pub record Drew (old new : Line) (taken : List ℕ) : Type 0 where
  pub took : new.tape.took ≡ old.tape.took ++ taken
  pub wrote : new.tape.wrote ≡ old.tape.wrote
  pub flushed : new.tape.flushed ≡ old.tape.flushed
  pub read : new.read ≡ old.read + length taken
  pub limit : new.limit ≡ old.limit

-- these bytes were read, and those written
pub record MovesLine (old new : Line) (taken sent : List ℕ) : Type 0 where
  pub took : new.tape.took ≡ old.tape.took ++ taken
  pub wrote : new.tape.wrote ≡ old.tape.wrote ++ sent
  pub read : new.read ≡ old.read + length taken
  pub limit : new.limit ≡ old.limit

-- what was taken is the front of what was to come, and where the end was answered nothing is to come any more
pub record Foretold (was is : Option (List ℕ)) (old new : Tape) : Type 0 where
  pub foreseen : Foreseen was is old new
  pub ends : TapeEnds is old new
