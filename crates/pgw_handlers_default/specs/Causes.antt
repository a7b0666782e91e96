-- What a table refuses has a cause of its own.
use Rattle.std.specs.Prelude.{ℕ, Bool}
use Rattle.pgw_backend.specs.declared.client_error.PgWireClientError.{PgWireClientError as ClientError}
use Rattle.pgw_session.specs.declared.stage.Next.{Next}
use Rattle.pgw_session.specs.declared.stage.Next.TheVariants as next
use Rattle.pgw_handlers.specs.Handling.{IsCaused}

-- it comes of no link, and of no broken client
abbrev pub IsAlwaysCaused : ClientError → Type 0
IsAlwaysCaused e = (before now : ℕ) → (broken : Bool) → IsCaused e before now broken

abbrev pub RefusesCaused : Next → Type 0
RefusesCaused (next.Refuses e) = IsAlwaysCaused e
RefusesCaused other = Unit {0}
