-- A map of pairs as a map by number of one pair, and one by number of maps by key.
use Rattle.std.specs.Prelude.{◌≡◌, ◌≢◌, ℕ, ℤ, Bool, false, not, cond, List, [], ◌∷◌, ◌++◌, map, Option, None, Some, Vec}
use Rattle.std.specs.declared.alloc.Global.{Global}
use Rattle.std.specs.Ordering.{int_cmp, eq_by_cmp}
use Rattle.std.specs.BTreeMap.{BTreeMap, is_at}
use Rattle.std.specs.Map.{lookup}
use Rattle.pgw_registry.specs.declared.pairs.One.{One}
use Rattle.pgw_registry.specs.Pairs.{bytes_cmp}

abbrev pub Key : Type 0
Key = Vec ℕ Global

-- the pairs of one number
abbrev pub pairs_of : ℤ → List (Key × ℕ) → List ((ℤ × List ℕ) × ℕ)
pairs_of pid keys = map (λ k. ((pid, k.0.items), k.1)) keys

-- the pairs of each number
unfoldable pub flat : List (ℤ × BTreeMap Key ℕ) → List ((ℤ × List ℕ) × ℕ)
flat [] = []
flat (e ∷ es) = pairs_of e.0 e.1.entries ++ flat es

-- what stands at the key
unfoldable pub at_key : List (Key × ℕ) → List ℕ → Option ℕ
at_key keys key = lookup (is_at (λ k. bytes_cmp key k.items)) keys

-- what stands at the key of a number that may have none
unfoldable pub in_number : Option (BTreeMap Key ℕ) → List ℕ → Option ℕ
in_number None key = None
in_number (Some keys) key = at_key keys.entries key

-- a number that has a map has a key in it
abbrev pub NoneEmpty : List (ℤ × BTreeMap Key ℕ) → Type 0
NoneEmpty numbers =
    (pid : ℤ) (keys : BTreeMap Key ℕ) → lookup (is_at (int_cmp pid)) numbers ≡ Some keys
    → keys.entries ≢ []

-- what stands at the number and the key
unfoldable pub at_pair : List (ℤ × BTreeMap Key ℕ) → ℤ → List ℕ → Option ℕ
at_pair numbers pid key = in_number (lookup (is_at (int_cmp pid)) numbers) key

-- ---- one pair of each number

unfoldable pub flat_firsts : List (ℤ × One) → List ((ℤ × List ℕ) × ℕ)
flat_firsts [] = []
flat_firsts (e ∷ es) = ((e.0, e.1.key.items), e.1.handle) ∷ flat_firsts es

-- what stands at the key, where one key may stand
unfoldable pub in_one : Option One → List ℕ → Option ℕ
in_one None key = None
in_one (Some one) key = cond (eq_by_cmp bytes_cmp key one.key.items) (Some one.handle) None

unfoldable pub at_first : List (ℤ × One) → ℤ → List ℕ → Option ℕ
at_first firsts pid key = in_one (lookup (is_at (int_cmp pid)) firsts) key

-- whether a key stands there, and it is another
unfoldable pub is_other_key : Option One → List ℕ → Bool
is_other_key None key = false
is_other_key (Some one) key = not (eq_by_cmp bytes_cmp key one.key.items)

-- ---- both

-- the first, or else the second
unfoldable pub first_number_of : Option ℕ → Option ℕ → Option ℕ
first_number_of None o = o
first_number_of (Some x) o = Some x

unfoldable pub both_flat : List (ℤ × One) → List (ℤ × BTreeMap Key ℕ) → List ((ℤ × List ℕ) × ℕ)
both_flat firsts numbers = flat_firsts firsts ++ flat numbers

-- what stands at the number and the key, first or among its other keys
unfoldable pub at_either : List (ℤ × One) → List (ℤ × BTreeMap Key ℕ) → ℤ → List ℕ
    → Option ℕ
at_either firsts numbers pid key =
    first_number_of (at_first firsts pid key) (at_pair numbers pid key)
