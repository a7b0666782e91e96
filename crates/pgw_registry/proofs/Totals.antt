-- Sums over the views, and counts in lists of numbers.
use Rattle.std.proofs.Common.{◌≡◌, ◌≢◌, ℕ, zero, suc, ◌+◌, ◌<◌, ◌≤◌, List, [], ◌∷◌, ◌++◌, set, refl, sym, ap, arith}
use Rattle.std.proofs.lemmas.Bool.Decides.{nat_tests}
use mathlib.Core.Option.{some, some-injective, some-ne-none}
use lib.ListN.{get_elem?}
use Rattle.pgw_registry.specs.declared.numbers.Hand.{Hand}
use Rattle.pgw_registry.specs.Numbers.{total, times, above}

module _ (f : Hand → ℕ) where
  pub total_set : (views : List Hand) (i : ℕ) (v w : Hand) → get_elem? views i ≡ some v
      → total f (set views i w) + f v ≡ total f views + f w
  total_set [] i v w e = absurd (some-ne-none v (sym e))
  total_set (x ∷ xs) zero v w e = let is : f x ≡ f v = ap f (some-injective x v e) in omega arith
  total_set (x ∷ xs) (suc i) v w e = let r = total_set xs i v w e in omega arith

  pub total_snoc : (views : List Hand) (w : Hand) → total f (views ++ w ∷ []) ≡ total f views + f w
  total_snoc [] w = omega arith
  total_snoc (x ∷ xs) w = let r = total_snoc xs w in omega arith

  pub total_has : (views : List Hand) (i : ℕ) (v : Hand) → get_elem? views i ≡ some v → f v ≤ total f views
  total_has [] i v e = absurd (some-ne-none v (sym e))
  total_has (x ∷ xs) zero v e = let is : f x ≡ f v = ap f (some-injective x v e) in omega arith
  total_has (x ∷ xs) (suc i) v e = let r = total_has xs i v e in omega arith

  total_none : (views : List Hand) → ((j : ℕ) (u : Hand) → get_elem? views j ≡ some u → f u ≡ 0)
      → total f views ≡ 0
  total_none [] none = refl
  total_none (x ∷ xs) none =
      let a = none 0 x refl in let r = total_none xs (λ j u h. none (suc j) u h) in omega arith

  -- the others have none of it
  pub total_only : (views : List Hand) (i : ℕ) (v : Hand) → get_elem? views i ≡ some v
      → ((j : ℕ) (u : Hand) → j ≢ i → get_elem? views j ≡ some u → f u ≡ 0) → total f views ≡ f v
  total_only [] i v e none = absurd (some-ne-none v (sym e))
  total_only (x ∷ xs) zero v e none = let is : f x ≡ f v = ap f (some-injective x v e) in
      let z = total_none xs (λ j u h. none (suc j) u (λ s. omega arith) h) in omega arith
  total_only (x ∷ xs) (suc i) v e none =
      let z =
      none 0 x (λ s. omega arith) refl in let r =
      total_only xs i v e (λ j u ne h. none (suc j) u (λ s. ne (omega arith)) h) in omega arith

  pub total_le : (g : Hand → ℕ) (views : List Hand)
      → ((i : ℕ) (v : Hand) → get_elem? views i ≡ some v → f v ≤ g v) → total f views ≤ total g views
  total_le g [] h = omega arith
  total_le g (x ∷ xs) h = let a = h 0 x refl in let r = total_le g xs (λ i v e. h (suc i) v e) in omega arith

pub times-append : (x : ℕ) (xs ys : List ℕ) → times x (xs ++ ys) ≡ times x xs + times x ys
times-append x [] ys = omega arith
times-append x (y ∷ xs) ys = let r = times-append x xs ys in omega arith

pub above-append : (xs ys : List ℕ) → above (xs ++ ys) ≡ above xs + above ys
above-append [] ys = omega arith
above-append (y ∷ xs) ys = let r = above-append xs ys in omega arith

pub times_here : (x : ℕ) → times x (x ∷ []) ≡ 1
times_here x = grind (arith, nat_tests)

pub times_else : (x y : ℕ) → y ≢ x → times x (y ∷ []) ≡ 0
times_else x y ne = grind (arith, nat_tests)

pub above_low : (y : ℕ) → y ≤ 2147483647 → above (y ∷ []) ≡ 0
above_low y h = grind (arith, nat_tests)

pub above_high : (y : ℕ) → 2147483647 < y → above (y ∷ []) ≡ 1
above_high y h = grind (arith, nat_tests)
