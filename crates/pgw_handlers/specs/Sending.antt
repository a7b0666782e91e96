-- What becomes of a client and of a message that it is to send.
use Rattle.std.specs.Prelude.{◌≡◌, ℕ, Bool, true, false, List, [], ◌++◌, length, Result, Ok, Err}
use Rattle.pgw_types.specs.declared.error.PgWireError.{PgWireError}
use Rattle.pgw_backend.specs.declared.client_error.PgWireClientError.{PgWireClientError as ClientError}
use Rattle.pgw_backend.specs.declared.client_error.PgWireClientError.TheVariants as client
use Rattle.pgw_handlers.specs.Client.{Sight}

-- these bytes were appended, and all was flushed
abbrev pub after_sending : List ℕ → Sight → Sight
after_sending bytes s = record s { wrote = s.wrote ++ bytes; flushed = length (s.wrote ++ bytes) }

-- the message's one spelling was sent, by a client that can be used
pub record Sent (spelled : Result (List ℕ) PgWireError) (old new : Sight) : Type 0 where
  pub bytes : List ℕ
  pub spells : spelled ≡ Ok bytes
  pub usable : old.broken ≡ false
  pub after : new ≡ after_sending bytes old

-- no bytes, where a message has no spelling
abbrev pub bytes_or_none : Result (List ℕ) PgWireError → List ℕ
bytes_or_none (Ok bytes) = bytes
bytes_or_none (Err e) = []

-- a front of the message was written, and the client cannot be used any more
pub record WritesFront (spelled : Result (List ℕ) PgWireError) (old new : Sight) : Type 0 where
  pub front : List ℕ
  pub behind : List ℕ
  pub cut : bytes_or_none spelled ≡ front ++ behind
  pub usable : old.broken ≡ false
  pub after : new ≡ record old { wrote = old.wrote ++ front; broken = true }

-- Why a message was not sent. A refusal of its spelling leaves the client as it was.
abbrev pub NotSent : Result (List ℕ) PgWireError → Sight → Sight → ClientError → Type 0
NotSent spelled old new client.Broken = (old.broken ≡ true) × (new ≡ old)
NotSent spelled old new client.IoError = WritesFront spelled old new
NotSent spelled old new client.OutOfMemory = WritesFront spelled old new
NotSent spelled old new (client.PgWireError why) =
    (old.broken ≡ false) × (spelled ≡ Err why) × (new ≡ old)
NotSent spelled old new e = ⊥

-- whether the client can be used before and behind the call, by its answer
abbrev pub SendLeavesUsable : Result (Unit {0}) ClientError → Bool → Bool → Type 0
SendLeavesUsable (Ok done) was is = (was ≡ false) × (is ≡ false)
SendLeavesUsable (Err client.Broken) was is = (was ≡ true) × (is ≡ true)
SendLeavesUsable (Err client.IoError) was is = (was ≡ false) × (is ≡ true)
SendLeavesUsable (Err client.OutOfMemory) was is = (was ≡ false) × (is ≡ true)
SendLeavesUsable (Err (client.PgWireError why)) was is = (was ≡ false) × (is ≡ false)
SendLeavesUsable (Err e) was is = ⊥

-- told or not: what was sent, or not sent whole, has a spelling, and a message is refused as its spelling is
abbrev pub IsSpelled : Result (List ℕ) PgWireError → Result (Unit {0}) ClientError → Type 0
IsSpelled spelled (Ok done) = (bytes : List ℕ) × (spelled ≡ Ok bytes)
IsSpelled spelled (Err client.IoError) = (bytes : List ℕ) × (spelled ≡ Ok bytes)
IsSpelled spelled (Err (client.PgWireError why)) = spelled ≡ Err why
IsSpelled spelled (Err e) = Unit {0}
