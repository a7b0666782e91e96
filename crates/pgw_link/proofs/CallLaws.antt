-- What one call more reaches.
use Rattle.std.proofs.Common.{◌≡◌, ℕ, ◌+◌, ◌<◌, ◌≤◌, List, [], ◌∷◌, Bool, true, false, ◌&&◌, ◌||◌, ◌==◌, nat_lt, nat_le, refl, ap, ◌∙◌, arith}
use Rattle.std.specs.List.{list_any}
use Rattle.std.proofs.lemmas.Bool.Decides.{nat_tests}
use Rattle.pgw_types.specs.Counts.{next_count}
use Rattle.pgw_link.specs.Calls.{is_listed, is_reached, call_number}

none : (n : ℕ) → (nat_lt 0 n && nat_le n 0) ≡ false
none n = grind (arith, nat_tests)

pub is_reached-none : (numbers : List ℕ) → is_reached numbers 0 ≡ false
is_reached-none [] = refl
is_reached-none (n ∷ ns) = rw (none n, is_reached-none ns) refl

one : (n made next : ℕ) → 0 < next → made ≤ next → next ≤ made + 1
    → (nat_lt 0 n && nat_le n next) ≡ ((nat_lt 0 n && nat_le n made) || (n == next))
one n made next some above near = grind (arith, nat_tests)

four : (a b c d : Bool) → ((a || b) || (c || d)) ≡ ((a || c) || (b || d))
four true b c d = refl
four false true c d = elim c as (λ v. true ≡ (v || true)) [ true ↦ refl | false ↦ refl ]
four false false c d = refl

pub is_reached-more : (numbers : List ℕ) (made next : ℕ) → 0 < next → made ≤ next → next ≤ made + 1
    → is_reached numbers next ≡ (is_reached numbers made || list_any (λ n. n == next) numbers)
is_reached-more [] made next some above near = refl
is_reached-more (n ∷ ns) made next some above near =
    rw (one n made next some above near, is_reached-more ns made next some above near)
    (four (nat_lt 0 n && nat_le n made) (n == next) (is_reached ns made) (list_any (λ n. n == next) ns))

pub or_true : (a : Bool) → (a || true) ≡ true
or_true true = refl
or_true false = refl

pub or_false : (a : Bool) → (a || false) ≡ a
or_false true = refl
or_false false = refl

-- ---- the number of the next call

pub numbered : (made next calls : ℕ) → made ≡ call_number calls → next ≡ next_count made
    → next ≡ call_number (calls + 1)
numbered made next calls was is = omega (arith, was, is)

-- what the real count says of a call, by the number of calls
pub listed : (numbers : List ℕ) (made next calls : ℕ) (fails : Bool) → fails ≡ list_any (λ n. n == next) numbers
    → made ≡ call_number calls → next ≡ next_count made → fails ≡ is_listed numbers (calls + 1)
listed numbers made next calls fails is was on =
    is ∙ ap (λ (k : ℕ). list_any (λ n. n == k) numbers) (numbered made next calls was on)
