-- How a lease ends, by how many its session has had.
use Rattle.std.specs.Prelude.{ℕ, Result}
use Rattle.pgw_types.specs.Counts.{next_count}
use Rattle.pgw_backend.specs.declared.client_error.PgWireClientError.{PgWireClientError as ClientError}
use Rattle.pgw_pool.specs.declared.returned.Returned.{Returned}
use Rattle.pgw_pool.specs.declared.ending.LeaseEnd.{LeaseEnd}
use Rattle.pgw_pool.specs.declared.ending.LeaseEnd.TheVariants as ends
use Rattle.pgw_pool.specs.Returning.{dropped_behind}

-- a fact of what became of it, where it was given back
abbrev pub IfGivenBack : LeaseEnd → (Returned → Type 0) → Type 0
IfGivenBack (ends.GivenBack returned) P = P returned
IfGivenBack (ends.Retired left) P = Unit {0}

-- a fact of the leave that was taken, where its session was retired
abbrev pub IfRetired : LeaseEnd → (Result (Unit {0}) ClientError → Type 0) → Type 0
IfRetired (ends.GivenBack returned) P = Unit {0}
IfRetired (ends.Retired left) P = P left

-- how many sessions were dropped then
abbrev pub dropped_by_end : ℕ → LeaseEnd → ℕ
dropped_by_end dropped (ends.GivenBack returned) = dropped_behind dropped returned
dropped_by_end dropped (ends.Retired left) = next_count dropped
