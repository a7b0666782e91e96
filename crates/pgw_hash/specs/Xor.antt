-- Exclusive or, octet by octet.
use Rattle.std.specs.Prelude.{ℕ, List, [], ◌∷◌, bit_xor}

-- two strings of octets of one length, exclusive-ored
unfoldable pub xor : List ℕ → List ℕ → List ℕ
xor [] ys = []
xor (x ∷ xs) [] = []
xor (x ∷ xs) (y ∷ ys) = bit_xor x y ∷ xor xs ys
