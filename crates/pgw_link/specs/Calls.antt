-- Calls of one kind, counted from 1, some of which are to fail.
use Rattle.std.specs.Prelude.{ℕ, ◌-◌, ◌^◌, min, List, [], ◌∷◌, Bool, false, ◌&&◌, ◌||◌, ◌==◌, nat_lt, nat_le}
use Rattle.std.specs.List.{list_any}

-- the number by which the last of so many calls is listed: it stays at the greatest u64
abbrev pub call_number : ℕ → ℕ
call_number made = min made (2 ^ 64 - 1)

-- whether the last of so many calls is listed
abbrev pub is_listed : List ℕ → ℕ → Bool
is_listed numbers made = list_any (λ n. n == call_number made) numbers

-- whether one of the listed calls was made
abbrev pub is_reached : List ℕ → ℕ → Bool
is_reached [] made = false
is_reached (n ∷ ns) made = (nat_lt 0 n && nat_le n made) || is_reached ns made
