-- Whole numbers in a text.
use Rattle.std.specs.Prelude.{ℕ, List, length, ◌&&◌, ◌^◌, Option, Some, None, nat_lt, if◌then◌else◌}
use Rattle.std.specs.List.{list_all}
use Rattle.std.specs.Char.{is_digit}
use Rattle.std.specs.Str.Parse.{without_leading_plus, digits_value}

-- a whole number of so many bits: a plus or none, and decimal digits
unfoldable pub number_in : ℕ → List ℕ → Option ℕ
number_in bits text =
    let digits = without_leading_plus text in
    if nat_lt 0 (length digits) &&
    (list_all (λ c. is_digit c 10) digits && nat_lt (digits_value 10 digits) (2 ^ bits)) then
    Some (digits_value 10 digits) else None
