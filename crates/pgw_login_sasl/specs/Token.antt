-- The token in the value of `auth` (RFC 6750, section 2.1).
use Rattle.std.specs.Prelude.{◌≡◌, ℕ, ◌+◌, Bool, true, false, not, ◌&&◌, ◌||◌, ◌==◌, nat_le, nat_eq, List, [], ◌∷◌, length, take, drop, map, Option, Some, None, codes, if◌then◌else◌}
use Rattle.std.specs.List.{list_all, position}
use Rattle.std.specs.Cmp.Lexicographic.{pointwise}

-- ASCII white space
abbrev pub is_space : ℕ → Bool
is_space b = (b == 32) || (nat_le 9 b && nat_le b 13)

-- a small letter for a capital one
abbrev pub lower : ℕ → ℕ
lower b = if nat_le 65 b && nat_le b 90 then b + 32 else b

abbrev pub is_token_byte : ℕ → Bool
is_token_byte b =
    (nat_le 97 b && nat_le b 122) ||
    ((nat_le 65 b && nat_le b 90) || ((nat_le 48 b && nat_le b 57)
    || ((b == 45) || ((b == 46) || ((b == 95) ||
    ((b == 126) || ((b == 43) || ((b == 47) || (b == 61)))))))))

-- what stands behind `Bearer` and a space, in any case
abbrev pub behind_scheme : List ℕ → Option (List ℕ)
behind_scheme (a ∷ b ∷ c ∷ d ∷ e ∷ f ∷ g ∷ rest) =
    if pointwise nat_eq (lower a ∷ lower b ∷ lower c ∷ lower d ∷ lower e ∷ lower f ∷ lower g ∷ [])
    (codes "bearer ") then Some rest else None
behind_scheme value = None

abbrev pub from_place : Option ℕ → List ℕ → List ℕ
from_place None text = []
from_place (Some n) text = drop n text

-- without the white space in front
unfoldable pub behind_space : List ℕ → List ℕ
behind_space text = from_place (position (λ b. not (is_space b)) text) text

abbrev pub is_token : List ℕ → Bool
is_token text = not (length text == 0) && list_all is_token_byte text

abbrev pub checked : List ℕ → Option (List ℕ)
checked text = if is_token text then Some text else None

abbrev pub token_behind : Option (List ℕ) → Option (List ℕ)
token_behind None = None
token_behind (Some text) = checked (behind_space text)

-- the token that is left, if it has a byte and only those that a token may have
abbrev pub token_in : List ℕ → Option (List ℕ)
token_in value = token_behind (behind_scheme value)
