-- How a client comes by its messages.
use Rattle.pgw_wire.specs.Framing.{stated_length}
use Rattle.std.specs.Prelude.{◌≡◌, ◌⊎◌, ◌<◌, ℕ, ◌+◌, length, nat_lt, if◌then◌else◌, Bool, true, false, List, [], ◌∷◌, ◌++◌, Result, Ok, Err, OnOk}
use Rattle.pgw_backend.specs.declared.backend.PgWireBackendMessage.{PgWireBackendMessage as Backend}
use Rattle.pgw_backend.specs.declared.client_error.PgWireClientError.{PgWireClientError as ClientError}
use Rattle.pgw_backend.specs.declared.client_error.PgWireClientError.TheVariants as client
use Rattle.pgw_types.specs.Counts.{Rose}
use Rattle.pgw_handlers.specs.Client.{Client}
use Rattle.pgw_client_calls.specs.Talk.{Next, Lack, Passing, is_remote}
use Rattle.pgw_client_calls.specs.Line.{Line, IsAtEnd, Reasons, Pause, WentWell, NotEnded, Halts, AtEnd, Drew}

-- the link's calls went well, and its end was not answered
abbrev pub LineGoesOn : Line → Line → Type 0
LineGoesOn old new = NotEnded old new × (new.faults ≡ old.faults)

-- bytes came behind those in the buffer
pub record LineGrows (old new : Line) : Type 0 where
  pub piece : List ℕ
  pub some : old.read < new.read
  pub drew : Drew old new piece
  pub buffer : new.buffer ≡ old.buffer ++ piece
  pub goes_on : LineGoesOn old new
  pub reads : new.tape.reads ≡ old.tape.reads + 1

-- the link's end was answered
pub record MeetsLinkEnd (old new : Line) : Type 0 where
  pub drew : Drew old new []
  pub buffer : new.buffer ≡ old.buffer
  pub ended : new.tape.ended ≡ old.tape.ended ++ old.tape.flushed ∷ []
  pub at_end : IsAtEnd old.tape.ended new
  pub faults : new.faults ≡ old.faults
  pub reads : new.tape.reads ≡ old.tape.reads + 1

-- the link's read failed
pub record LinkReadFails (old new : Line) : Type 0 where
  pub drew : Drew old new []
  pub buffer : new.buffer ≡ old.buffer
  pub ended : NotEnded old new
  pub rose : Rose old.faults new.faults
  pub reads : new.tape.reads ≡ old.tape.reads + 1

-- bytes came that could not be kept
pub record Lost (old new : Line) : Type 0 where
  pub piece : List ℕ
  pub drew : Drew old new piece
  pub buffer : new.buffer ≡ old.buffer
  pub ended : NotEnded old new
  pub faults : new.faults ≡ old.faults
  pub reads : new.tape.reads ≡ old.tape.reads + 1

-- one read, or none where the limit is reached
abbrev pub ReadOnce : Line → Line → Result Bool ClientError → Type 0
ReadOnce old new (Ok true) = LineGrows old new
ReadOnce old new (Ok false) = MeetsLinkEnd old new
ReadOnce old new (Err client.OutOfMemory) = Lost old new
ReadOnce old new (Err client.IoError) = LinkReadFails old new
ReadOnce old new (Err client.ReadLimit) = (new ≡ old) × (old.read ≡ old.limit)
ReadOnce old new (Err e) = ⊥

-- how many bytes the message at the front has, by its length field; or those up to that field's end, where it is not whole
abbrev pub awaited : List ℕ → ℕ
awaited bytes = if nat_lt (length bytes) 5 then 5 else 1 + stated_length 1 bytes

-- a message, or why there is none
abbrev pub NextOrLack : Reasons → Client → List ℕ → Result Backend ClientError → List ℕ → Type 0
NextOrLack P c bytes (Ok m) rest = Next c bytes m rest
NextOrLack P c bytes (Err e) rest = Lack P c bytes rest e

-- the message at the front of a client's bytes, for which as many were read as it takes
pub record MessageCame (c : Client) (old new : Line) (result : Result Backend ClientError) : Type
    0 where
  pub taken : List ℕ
  pub drew : Drew old new taken
  pub found : NextOrLack (Pause old new) c (old.buffer ++ taken) result new.buffer
  pub halts : Halts c old.tape.flushed old new
  pub at_end : AtEnd old new (result ≡ Err client.UnexpectedEOF)
  pub goes_on : OnOk result (LineGoesOn old new)
  pub well : WentWell old new ⊎ (result ≡ Err client.IoError)

-- behind an error the messages were passed over
pub record PassedOver (e : ClientError) (c : Client) (old new : Line) (x : ClientError)
    (last : Client) (broken : Bool) : Type 0 where
  pub taken : List ℕ
  pub drew : Drew old new taken
  pub passing : Passing (Pause old new) e c (old.buffer ++ taken) x last new.buffer broken
  pub halts : Halts last old.tape.flushed old new
  pub at_end : AtEnd old new
      ((broken ≡ true) × ((x ≡ e) ⊎ ((e ≡ client.UnexpectedEOF) × (is_remote x ≡ true))))
  pub well : WentWell old new ⊎ (x ≡ client.IoError)
