-- Bytes that are added to by lines of hex digits.
use Rattle.std.specs.Prelude.{◌≡◌, ℕ, List, ◌++◌, Bool, true, false, not, ◌==◌, Option, Some, None}
use Rattle.std.specs.List.{filter}
use Rattle.pgw_prog_script.specs.Line.{bytes_in}

-- the bytes of the text were added, or it is none of digits
abbrev pub AddsScriptBytes : Bool → List ℕ → List ℕ → List ℕ → Type 0
AddsScriptBytes true text old new =
    (bytes : List ℕ) × (bytes_in text ≡ Some bytes) × (new ≡ old ++ bytes)
AddsScriptBytes false text old new = bytes_in text ≡ None

-- what a digit is worth, and 256 for none
abbrev pub worth_of : Option ℕ → ℕ
worth_of None = 256
worth_of (Some digit) = digit

-- bytes, and those behind them if there are such
abbrev pub followed_by : List ℕ → Option (List ℕ) → Option (List ℕ)
followed_by bytes None = None
followed_by bytes (Some more) = Some (bytes ++ more)

-- the bytes were added that the text has before those of its rest
abbrev pub AddsFront : (rest text old new : List ℕ) → Type 0
AddsFront rest text old new =
    (bytes : List ℕ) × (new ≡ old ++ bytes) × (bytes_in text ≡ followed_by bytes (bytes_in rest))

-- a text without its spaces
abbrev pub digits : List ℕ → List ℕ
digits text = filter (λ b. not (b == 32)) text
