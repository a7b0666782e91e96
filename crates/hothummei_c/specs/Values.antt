-- What a value that is handed out tells.
use Rattle.std.specs.Prelude.{◌≡◌, ℕ, List, [], ◌∷◌, length, Option, Some, None}
use Rattle.hothummei_c.specs.declared.values.Value.{Value}

-- it has so many bytes; they lie where it points
abbrev pub HoldsCBytes : List ℕ → Value → Type 0
HoldsCBytes bytes value = (value.len ≡ length bytes) × (value.null ≡ 0)

abbrev pub IsNull : Value → Type 0
IsNull value = (value.len ≡ 0) × (value.null ≡ 1)

abbrev pub TellsValue : Option (List ℕ) → Value → Type 0
TellsValue None value = IsNull value
TellsValue (Some bytes) value = HoldsCBytes bytes value

-- each value in its place
abbrev pub TellsAll : List (Option (List ℕ)) → List Value → Type 0
TellsAll [] [] = Unit {0}
TellsAll [] (v ∷ vs) = ⊥
TellsAll (b ∷ bs) [] = ⊥
TellsAll (b ∷ bs) (v ∷ vs) = TellsValue b v × TellsAll bs vs
