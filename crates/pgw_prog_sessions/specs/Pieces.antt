-- The pieces of printed text.
use Rattle.std.specs.Prelude.{ℕ, List, [], ◌∷◌, ◌++◌, ◌==◌, ◌||◌, nat_lt, codes, if◌then◌else◌}
use Rattle.std.specs.List.{flat_map}
use Rattle.hex.specs.Hex.{encode_lower}

-- bytes in hex, or - for none
unfoldable pub in_hex : List ℕ → List ℕ
in_hex [] = codes "-"
in_hex (b ∷ bs) = encode_lower (b ∷ bs)

-- a byte of a quoted text: a quote and a backslash are escaped, and an ASCII control character is \x and two hex digits
unfoldable pub quoted_byte : ℕ → List ℕ
quoted_byte b =
    if b == 34 || b == 92 then 92 ∷ b ∷ [] else
    (if nat_lt b 32 || b == 127 then codes "\\x" ++ in_hex (b ∷ []) else b ∷ [])

unfoldable pub quoted : List ℕ → List ℕ
quoted text = 34 ∷ [] ++ flat_map quoted_byte text ++ 34 ∷ []

abbrev pub line_end : List ℕ
line_end = 10 ∷ []
