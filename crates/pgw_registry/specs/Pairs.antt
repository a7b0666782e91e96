-- Process numbers with keys.
use Rattle.std.specs.Prelude.{ℕ, ℤ, Bool, false, eqb, not, List, Option, None, Some}
use Rattle.std.specs.declared.cmp.Ordering.{Ordering}
use Rattle.std.specs.Ordering.{nat_cmp, int_cmp, on, then_cmp}
use Rattle.std.specs.Cmp.Lexicographic.{slice_cmp}
use Rattle.std.specs.FinMap as map

abbrev pub bytes_cmp : List ℕ → List ℕ → Ordering
bytes_cmp = slice_cmp nat_cmp

-- by the process number, then by the key's bytes
abbrev pub pair_cmp : ℤ × List ℕ → ℤ × List ℕ → Ordering
pair_cmp = then_cmp (on (λ p. p.0) int_cmp) (on (λ p. p.1) bytes_cmp)

-- pairs of a process number and a key, each with its handle
abbrev pub PairMap : Type 0
PairMap = map.FinMap pair_cmp ℕ

-- whether it is this handle
abbrev pub is_handle : ℕ → Option ℕ → Bool
is_handle h None = false
is_handle h (Some n) = eqb n h

-- without each pair that has the handle
abbrev pub without_handle : PairMap → ℕ → PairMap
without_handle pairs h = map.retain_keys pairs (λ p. not (is_handle h (map.get pairs p)))
