-- The commands that have a help of their own.
use Rattle.std.specs.Prelude.{ℕ, List, Bool, ◌||◌, nat_eq, codes}
use Rattle.std.specs.Cmp.Lexicographic.{pointwise}

abbrev pub is_command : List ℕ → Bool
is_command word = pointwise nat_eq word (codes "query") || pointwise nat_eq word (codes "check")
