-- What becomes of a message that is to be sent.
use Rattle.std.specs.Prelude.{◌≡◌, ◌⊎◌, ◌≤◌, ℕ, List, ◌++◌, Result, Ok, Err}
use Rattle.pgw_types.specs.Counts.{Rose}
use Rattle.pgw_types.specs.declared.error.PgWireError.{PgWireError}
use Rattle.pgw_types.specs.declared.error.PgWireError.TheVariants.{IoError}
use Rattle.pgw_wire.specs.Reading.{◌>>=◌, IsReadRefusal}
use Rattle.pgw_backend.specs.Backend.{backend_encoding}
use Rattle.pgw_backend.specs.declared.backend.PgWireBackendMessage.{PgWireBackendMessage as Message}

-- why a message was not taken: the outbox failed, and its count of faults rose; or the message has no encoding; or memory
-- ran out. The count never falls
pub record NotTaken (m : Message) (before after : ℕ) (e : PgWireError) : Type 0 where
  pub later : before ≤ after
  pub why : ((e ≡ IoError) × Rose before after) ⊎ IsReadRefusal e (backend_encoding m)

-- the bytes of the messages so far and of one more, where each has an encoding
abbrev pub and_encoding : Result (List ℕ) PgWireError → Message → Result (List ℕ) PgWireError
and_encoding so_far m = so_far >>= (λ bytes. backend_encoding m >>= (λ more. Ok (bytes ++ more)))
