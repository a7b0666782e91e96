-- How a configuration is refused.
use Rattle.std.specs.Prelude.{◌≡◌, ◌⊎◌, ℕ, List, Option, Some, None, Result, Ok, Err}
use Rattle.pgw_backend.specs.declared.client_error.PgWireClientError.{PgWireClientError as ClientError}
use Rattle.pgw_backend.specs.declared.client_error.PgWireClientError.TheVariants as client

-- the error names the key, or memory was wanting
abbrev pub IsInvalidConfig : List ℕ → ClientError → Type 0
IsInvalidConfig key e = (e ≡ client.InvalidConfig key) ⊎ (e ≡ client.OutOfMemory)

abbrev pub RefusesKey : {T : Type 0} → List ℕ → Result T ClientError → Type 0
RefusesKey key (Ok value) = ⊥
RefusesKey key (Err e) = IsInvalidConfig key e

-- a configuration is refused by the key of its demand, if it has one; no clause of a session cites it
abbrev pub ChecksDemand : Option (List ℕ) → Result Unit ClientError → Type 0
ChecksDemand None (Ok done) = Unit {0}
ChecksDemand None (Err e) = ⊥
ChecksDemand (Some key) result = RefusesKey key result
