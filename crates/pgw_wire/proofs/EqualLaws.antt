-- Equality of what is made of parts.
use Rattle.std.proofs.Common.{◌≡◌, ◌⊎◌, inl, inr, Bool, true, false, ◌&&◌, Some, None, refl, sym, ap, ◌∙◌}
use Rattle.std.proofs.lemmas.Bool.{and_parts}
use mathlib.Core.Bool.{beq}
use mathlib.Core.Logic.{⊎_elim}
use Rattle.std.specs.Option.{option_eq}
use Rattle.pgw_wire.specs.Equal.{IsExact}

pub bool_exact : IsExact beq
bool_exact true true = (λ e. refl, λ e. refl)
bool_exact false false = (λ e. refl, λ e. refl)
bool_exact x y = (λ e. absurd cc, λ e. absurd cc)

pub option_exact : {X : Type 0} (E : X → X → Bool) → IsExact E → IsExact (option_eq E)
option_exact E h None None = (λ e. refl, λ e. refl)
option_exact E h None (Some y) = (λ e. absurd cc, λ e. absurd cc)
option_exact E h (Some x) None = (λ e. absurd cc, λ e. absurd cc)
option_exact E h (Some x) (Some y) = (λ e. ap (λ z. Some z) ((h x y).0 e), λ e. (h x y).1 cc)

true_and : (a b : Bool) → a ≡ true → b ≡ true → (a && b) ≡ true
true_and a b p q = rw (p, q) refl

pub both_exact : {X Y : Type 0} (E : X → X → Bool) (F : Y → Y → Bool) → IsExact E → IsExact F
    → IsExact (λ (x : X × Y) y. E x.0 y.0 && F x.1 y.1)
both_exact {X} {Y} E F h k x y = (
  λ e.
      let p = and_parts (E x.0 y.0) (F x.1 y.1) e in
      ap (λ (a : X). (a, x.1)) ((h x.0 y.0).0 p.0) ∙ ap (λ (b : Y). (y.0, b)) ((k x.1 y.1).0 p.1),
  λ e. true_and (E x.0 y.0) (F x.1 y.1) ((h x.0 y.0).1 (ap (λ (p : X × Y). p.0) e))
      ((k x.1 y.1).1 (ap (λ (p : X × Y). p.1) e)),
)

-- a value is made of its parts, which are compared
pub made_exact : {X Y : Type 0} (parts : Y → X) (make : X → Y) → ((y : Y) → make (parts y) ≡ y)
    → (E : X → X → Bool) → IsExact E → IsExact (λ x y. E (parts x) (parts y))
made_exact parts make back E h x y = (
  λ e. sym (back x) ∙ ap make ((h (parts x) (parts y)).0 e)
      ∙ back y,
  λ e. (h (parts x) (parts y)).1 (ap parts e),
)

-- there is one value alone
pub one_exact : {X : Type 0} → ((x y : X) → x ≡ y) → IsExact {X = X} (λ x y. true)
one_exact only x y = (λ e. only x y, λ e. refl)

-- ---- one of several kinds

pub none_exact : (E : ⊥ → ⊥ → Bool) → IsExact E
none_exact E x y = absurd x

pub field_exact : {X : Type 0} (E : X → X → Bool) → IsExact E → IsExact (λ (x y : X × Unit {0}). E x.0 y.0)
field_exact {X} E h x y =
    (λ e. ap (λ (a : X). (a, tt)) ((h x.0 y.0).0 e), λ e. (h x.0 y.0).1 (ap (λ (p : X × Unit {0}). p.0) e))

pub pair_exact : {X Y : Type 0} (E : X → X → Bool) (F : Y → Y → Bool) → IsExact E → IsExact F
    → IsExact (λ (x y : X × (Y × Unit {0})). E x.0 y.0 && F x.1.0 y.1.0)
pair_exact E F h k = both_exact E (λ x y. F x.0 y.0) h (field_exact F k)

pub triple_exact : {X Y Z : Type 0} (E : X → X → Bool) (F : Y → Y → Bool) (G : Z → Z → Bool) → IsExact E
    → IsExact F → IsExact G
    → IsExact (λ (x y : X × (Y × (Z × Unit {0}))). E x.0 y.0 && (F x.1.0 y.1.0 && G x.1.1.0 y.1.1.0))
triple_exact E F G h k l = both_exact E (λ x y. F x.0 y.0 && G x.1.0 y.1.0) h (pair_exact F G k l)

pub sum_exact : {X Y : Type 0} (E : X → X → Bool) (F : Y → Y → Bool) → IsExact E → IsExact F
    → IsExact (λ (x y : X ⊎ Y). ⊎_elim (λ a. ⊎_elim (λ b. E a b) (λ b. false) y)
    (λ a. ⊎_elim (λ b. false) (λ b. F a b) y) x)
sum_exact E F h k (inl x) (inl y) = (λ e. ap inl ((h x y).0 e), λ e. (h x y).1 cc)
sum_exact E F h k (inl x) (inr y) = (λ e. absurd cc, λ e. absurd cc)
sum_exact E F h k (inr x) (inl y) = (λ e. absurd cc, λ e. absurd cc)
sum_exact E F h k (inr x) (inr y) = (λ e. ap inr ((k x y).0 e), λ e. (k x y).1 cc)
