-- The bound on holders after a handle is written or forgotten.
use Rattle.std.proofs.Common.{◌≡◌, ◌≢◌, ◌⊎◌, inl, inr, ⊎_elim, ℕ, ◌+◌, ◌<◌, ◌≤◌, Bool, true, false, cond, Option, Some, None, refl, ap, ◌∙◌, subst, arith}
use Rattle.std.proofs.lemmas.Bool.Decides.{nat_tests}
use Rattle.std.specs.Ordering.{nat_cmp, eq_by_cmp}
use Rattle.std.specs.Cmp.{nat_cmp_total}
use Rattle.std.specs.FinMap as map
use Rattle.pgw_registry.specs.declared.call.Handle.{Handle}
use Rattle.pgw_registry.specs.Sequential.{ProcessHandles}
use Rattle.pgw_registry.specs.Registry.{FewHolders}

module _ {X : Type 0} where
  pub cond_is : (b : Bool) (a c : Option X) (x : X) → cond b a c ≡ Some x
      → ((b ≡ true) × (a ≡ Some x)) ⊎ ((b ≡ false) × (c ≡ Some x))
  cond_is true a c x h = inl (refl, h)
  cond_is false a c x h = inr (refl, h)

  pub some_is : (v x : X) → Some v ≡ Some x → v ≡ x
  some_is v x h = cc

  pub not_none : (x : X) → ◌≡◌ {A = Option X} None (Some x) → ⊥
  not_none x h = cc

pub numbers_tied : (x y : ℕ) → eq_by_cmp nat_cmp x y ≡ true → x ≡ y
numbers_tied x y e = grind (arith, nat_tests)

pub numbers_apart : (x y : ℕ) → x ≢ y → eq_by_cmp nat_cmp x y ≡ false
numbers_apart x y e = grind (arith, nat_tests)

pub number_itself : (x : ℕ) → eq_by_cmp nat_cmp x x ≡ true
number_itself x = grind (arith, nat_tests)

-- what is there after a number is written
pub in_written : {X : Type 0} (m : map.FinMap nat_cmp X) (k : ℕ) (v : X) (q : ℕ) (x : X)
    → map.get (map.insert m k v) q ≡ Some x
    → ((q ≡ k) × (v ≡ x)) ⊎ ((eq_by_cmp nat_cmp q k ≡ false) × (map.get m q ≡ Some x))
in_written m k v q x h = ⊎_elim
    (λ (t : (eq_by_cmp nat_cmp q k ≡ true) × (Some v ≡ Some x)). inl (numbers_tied q k t.0, some_is v x t.1))
    (λ (t : (eq_by_cmp nat_cmp q k ≡ false) × (map.get m q ≡ Some x)). inr t)
    (cond_is (eq_by_cmp nat_cmp q k) (Some v) (map.get m q) x
    (subst (λ o. o ≡ Some x) (map.get-insert nat_cmp_total m k v q) h))

-- what is there after a number is removed
pub in_removed : {X : Type 0} (m : map.FinMap nat_cmp X) (k q : ℕ) (x : X) → map.get (map.remove m k) q ≡ Some x
    → map.get m q ≡ Some x
in_removed m k q x h = ⊎_elim
    (λ (t : (eq_by_cmp nat_cmp q k ≡ true) × (None ≡ Some x)). absurd (not_none x t.1))
    (λ (t : (eq_by_cmp nat_cmp q k ≡ false) × (map.get m q ≡ Some x)). t.1)
    (cond_is (eq_by_cmp nat_cmp q k) None (map.get m q) x
    (subst (λ o. o ≡ Some x) (map.get-remove nat_cmp_total m k q) h))

pub few_nothing : (hs : ProcessHandles) → hs ≡ map.empty → FewHolders hs 0
few_nothing hs is k x h =
    absurd (not_none x (subst (λ o. o ≡ Some x) (ap (λ m. map.get m k) is ∙ map.get-empty nat_cmp k) h))

pub few_later : (hs : ProcessHandles) (n : ℕ) → FewHolders hs n → FewHolders hs (n + 1)
few_later hs n few k x h = let f = few k x h in (f.0, omega arith)

pub few_written : (hs new : ProcessHandles) (k n : ℕ) (v : Handle) → new ≡ map.insert hs k v → FewHolders hs n
    → 0 < v.holders → v.holders ≤ n + 2 → FewHolders new (n + 1)
few_written hs new k n v is few some_holder low q x h = ⊎_elim
    (λ (t : (q ≡ k) × (v ≡ x)). (let e = ap (λ (y : Handle). y.holders) t.1 in (omega arith, omega arith)))
    (λ (t : (eq_by_cmp nat_cmp q k ≡ false) × (map.get hs q ≡ Some x)).
    (let f = few q x t.1 in (f.0, omega arith)))
    (in_written hs k v q x (subst (λ m. map.get m q ≡ Some x) is h))

pub few_removed : (hs new : ProcessHandles) (k n : ℕ) → new ≡ map.remove hs k → FewHolders hs n
    → FewHolders new (n + 1)
few_removed hs new k n is few q x h =
    let f = few q x (in_removed hs k q x (subst (λ m. map.get m q ≡ Some x) is h)) in (f.0, omega arith)
