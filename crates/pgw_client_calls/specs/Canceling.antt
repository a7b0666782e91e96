-- What a cancel does to its dialer, and what it answers.
use Rattle.std.specs.Prelude.{◌≡◌, ◌≢◌, ℕ, ℤ, List, Option, Result, Ok, Err}
use Rattle.pgw_types.specs.declared.error.PgWireError.{PgWireError}
use Rattle.pgw_types.specs.declared.address.Address.{Address}
use Rattle.pgw_types.specs.Counts.{Rose}
use Rattle.pgw_wire.specs.declared.secret_key.SecretKey.{SecretKey}
use Rattle.pgw_backend.specs.declared.client_error.PgWireClientError.{PgWireClientError as ClientError}
use Rattle.pgw_backend.specs.declared.client_error.PgWireClientError.TheVariants as client
use Rattle.pgw_frontend.specs.declared.frontend.PgWireFrontendMessage.TheVariants as frontend
use Rattle.pgw_frontend.specs.Frontend.{encoding}
use Rattle.pgw_config.specs.Address.{address_of}
use Rattle.pgw_link.specs.Tape.{Tape}
use Rattle.pgw_link.specs.Dials.{DialTape, MakesNext}
use Rattle.pgw_link.specs.Sending.{Wrote, WroteSome}
use Rattle.pgw_handlers.specs.Client.{Client}
use Rattle.pgw_client_calls.specs.Connecting.{LacksAddress, NoLink, DialsOnce}
use Rattle.pgw_client_calls.specs.declared.canceling.CancelToken.{CancelToken}

-- the request that cancels what the server does for the client of this process number and key
abbrev pub cancel_bytes : ℤ → SecretKey → Result (List ℕ) PgWireError
cancel_bytes pid key = encoding (frontend.CancelRequest (record { pid = pid; secret_key = key }))

-- it is the token of a client that knows this: where the server is, and by which number and key it
-- knows the client
pub record IsTokenOf (c : Client) (token : CancelToken) : Type 0 where
  pub address : address_of c.config ≡ Ok token.address
  pub process_id : token.process_id ≡ c.process_id
  pub secret_key : token.secret_key ≡ c.secret_key

-- ---- a message over a link of its own

-- a link was dialled, these bytes written to it, and the link closed
abbrev pub SentOnce : Address → List ℕ → DialTape → DialTape → Type 0
SentOnce address bytes old new =
    (first : Tape) × (after : Tape) × DialsOnce address old new first after
    × Wrote first after bytes

-- a link was dialled, and not all of them were written; or none was dialled
pub data NotSentOnce (foretells : Type 0) (address : Address) (bytes : List ℕ)
    (was is : Option (List (List ℕ))) (old new : DialTape) (before now : ℕ) : ClientError
    → Type 0 where
  no_link : (e : ClientError) → NoLink foretells address was is old new before now e →
      NotSentOnce foretells address bytes was is old new before now e
  cut : Rose before now → (first after : Tape) → DialsOnce address old new first after
      → WroteSome first after bytes →
      (foretells → (offer : Option (List ℕ)) × MakesNext was is offer) →
      NotSentOnce foretells address bytes was is old new before now client.IoError

-- What a token's cancel answers: `spelled` is the one message that it sends, and `same` says that the
-- dialer is as it was.
pub data Cancels (same foretells : Type 0) (address : Address)
    (spelled : Result (List ℕ) PgWireError)
    (was is : Option (List (List ℕ))) (old new : DialTape) (before now : ℕ)
    : Result (Unit {0}) ClientError → Type 0 where
  sent : (bytes : List ℕ) → spelled ≡ Ok bytes → SentOnce address bytes old new → now ≡ before →
      (foretells → (offer : Option (List ℕ)) × MakesNext was is offer) →
      Cancels same foretells address spelled was is old new before now (Ok tt)
  unsent : (bytes : List ℕ) (e : ClientError) → spelled ≡ Ok bytes →
      NotSentOnce foretells address bytes was is old new before now e →
      Cancels same foretells address spelled was is old new before now (Err e)
  unspelled : (e : ClientError) → same →
      (e ≢ client.OutOfMemory →
      (why : PgWireError) × (spelled ≡ Err why) × (e ≡ client.PgWireError why)) →
      Cancels same foretells address spelled was is old new before now (Err e)

-- What a client's cancel answers: its token's; or there is none, for the stated reason.
pub data CancelsFor (c : Client) (same foretells : Type 0) (was is : Option (List (List ℕ)))
    (old new : DialTape) (before now : ℕ) : Result (Unit {0}) ClientError → Type 0 where
  by : (token : CancelToken) (result : Result (Unit {0}) ClientError) → IsTokenOf c token →
      Cancels same foretells token.address (cancel_bytes token.process_id token.secret_key)
      was is old new before now result →
      CancelsFor c same foretells was is old new before now result
  no_token : (e : ClientError) → same → LacksAddress c.config e →
      CancelsFor c same foretells was is old new before now (Err e)
