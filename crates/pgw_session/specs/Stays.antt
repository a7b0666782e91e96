-- What stays as it was told. Not part of the claim: words of the laws on standings and segments.
use Rattle.std.specs.Prelude.{◌≡◌, ◌≢◌, ℕ, List, [], ◌∷◌}
use Rattle.pgw_backend.specs.declared.backend.PgWireBackendMessage.TheVariants as backend
use Rattle.pgw_session.specs.declared.standing.Standing.{Standing}
use Rattle.pgw_session.specs.Events.{Event, Sent, Got}

-- version, process number and key are the same
pub record IsSameConnection (s other : Standing) : Type 0 where
  pub version : s.version ≡ other.version
  pub process_id : s.process_id ≡ other.process_id
  pub secret_key : s.secret_key ≡ other.secret_key

-- no ReadyForQuery was got
abbrev pub IsUnready : List Event → Type 0
IsUnready [] = Unit {0}
IsUnready (Sent m ∷ es) = IsUnready es
IsUnready (Got (backend.ReadyForQuery m) ∷ es) = ⊥
IsUnready (Got m ∷ es) = IsUnready es

-- no ParameterStatus of that name was got
abbrev pub SetsNone : List ℕ → List Event → Type 0
SetsNone name [] = Unit {0}
SetsNone name (Sent m ∷ es) = SetsNone name es
SetsNone name (Got (backend.ParameterStatus m) ∷ es) = (m.name ≢ name) × SetsNone name es
SetsNone name (Got m ∷ es) = SetsNone name es
