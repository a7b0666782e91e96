-- The attributes of a message (RFC 5802, section 7: attr-val).
use Rattle.std.specs.Prelude.{◌≡◌, ℕ, List, [], ◌∷◌, ◌++◌, true, not, ◌==◌, Option, Some, None}
use Rattle.std.specs.List.{list_all}

-- no comma stands in a value
abbrev pub IsValue : List ℕ → Type 0
IsValue text = list_all (λ b. not (b == 44)) text ≡ true

-- what stands behind a value: nothing, or a comma and more
abbrev pub more_attributes : Option (List ℕ) → List ℕ
more_attributes None = []
more_attributes (Some more) = 44 ∷ more

-- a name with its equals sign, a value, and what stands behind
abbrev pub attribute : List ℕ → List ℕ → Option (List ℕ) → List ℕ
attribute name value more = name ++ (value ++ more_attributes more)
