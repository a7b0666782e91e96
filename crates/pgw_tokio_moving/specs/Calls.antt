-- What the calls of a stream did, by the stream's own members.
use Rattle.std.specs.Prelude.{◌≡◌, ◌<◌, ◌⊎◌, ℕ, List, [], ◌∷◌, length, Option, Some, None}
use Rattle.std.specs.declared.io.Error.{Error}
use Rattle.tokio.specs.declared.io.async_read.AsyncRead as AsyncRead
use Rattle.tokio.specs.declared.io.async_write.AsyncWrite as AsyncWrite
use Rattle.tokio.specs.Io.Moved.{WriteFails}

-- What one call of a stream did: a read gave these bytes, or met the end; a write took these; a flush was done; nothing
-- moved, and it is to be made again; a read, a write or a flush failed.
pub data Call : Type 0 where
  Gave : List ℕ → Call
  Ended : Call
  Wrote : List ℕ → Call
  Flushed : Call
  Waited : Call
  Unread : Error → Call
  Unwritten : Error → Call
  Unflushed : Error → Call

-- the error of a call that failed
abbrev pub fault_of : Call → Option Error
fault_of (Unread e) = Some e
fault_of (Unwritten e) = Some e
fault_of (Unflushed e) = Some e
fault_of c = None

-- it neither failed nor met the end
abbrev pub CallGoesOn : Call → Type 0
CallGoesOn Ended = ⊥
CallGoesOn (Unread e) = ⊥
CallGoesOn (Unwritten e) = ⊥
CallGoesOn (Unflushed e) = ⊥
CallGoesOn c = Unit {0}

module _ {S : Type 0} (reader : AsyncRead.Ghosts S) (writer : AsyncWrite.Ghosts S) where
  -- the call led the stream from a to b
  abbrev pub DidStreamCall : S → Call → S → Type 0
  DidStreamCall a (Gave bytes) b = reader.reads a bytes b × (0 < length bytes)
  DidStreamCall a Ended b = reader.reads a [] b × reader.is_at_end b
  DidStreamCall a (Wrote bytes) b = writer.writes a bytes b × (0 < length bytes)
  DidStreamCall a Flushed b = writer.writes a [] b × writer.is_flushed b
  DidStreamCall a Waited b = reader.reads a [] b ⊎ writer.writes a [] b
  DidStreamCall a (Unread e) b = reader.reads a [] b × reader.fails b e
  DidStreamCall a (Unwritten e) b = writer.writes a [] b
      × WriteFails writer.fails writer.is_full b e
  DidStreamCall a (Unflushed e) b = writer.writes a [] b × writer.fails b e

  -- these calls did, one after the other
  abbrev pub Trail : S → List Call → S → Type 0
  Trail a [] b = a ≡ b
  Trail a (call ∷ calls) b = (mid : S) × DidStreamCall a call mid × Trail mid calls b
