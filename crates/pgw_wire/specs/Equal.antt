-- Equality.
use Rattle.std.specs.Prelude.{◌≡◌, Bool}
use Rattle.std.specs.Bool.{Decides}

-- a test that holds just of a value and itself
abbrev pub IsExact : {X : Type 0} → (X → X → Bool) → Type 0
IsExact {X} E = (x y : X) → Decides (E x y) (x ≡ y)
