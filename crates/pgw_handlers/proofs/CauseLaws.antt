-- An error that holds a message has a cause of its own.
use Rattle.std.specs.Prelude.{ℕ, Bool}
use Rattle.pgw_backend.specs.declared.backend.PgWireBackendMessage.{PgWireBackendMessage as Backend}
use Rattle.pgw_backend.specs.declared.client_error.PgWireClientError.{PgWireClientError as ClientError}
use Rattle.pgw_backend.specs.declared.client_error.PgWireClientError.TheVariants as client
use Rattle.pgw_backend.specs.ClientError.{IsUnexpected}
use Rattle.pgw_handlers.specs.Handling.{IsCaused}

pub unexpected_is_caused : (m : Backend) → (e : ClientError) → (before now : ℕ) → (broken : Bool)
    → IsUnexpected m e → IsCaused e before now broken
unexpected_is_caused m client.IoError before now broken h = absurd h
unexpected_is_caused m client.Broken before now broken h = absurd h
unexpected_is_caused m e before now broken h = tt
