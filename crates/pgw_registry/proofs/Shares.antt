-- Shares that add up to the whole, where one is divided or two are put together.
use Rattle.std.proofs.Common.{◌≡◌, ◌≢◌, ℕ, zero, suc, ◌+◌, ◌*◌, ◌<◌, ◌≤◌, List, [], ◌∷◌, ◌++◌, set, refl, sym, ap, ◌∙◌, subst, arith}
use mathlib.Core.Option.{some, some-injective, some-ne-none}
use lib.ListN.{get_elem?}
use Rattle.atomic_table.proofs.Lists.{set_else}
use Rattle.pgw_registry.specs.declared.share.Share.{Share}
use Rattle.pgw_registry.specs.Shares.{IsWholeShare, none, half, together, HasUnits, HaveUnits, AddUp, IsSomeShare}

-- a common factor is left out
few_factor : (m n k : ℕ) → 0 < k → m * k ≤ n * k → m ≤ n
few_factor zero n k h e = omega arith
few_factor (suc m) zero k h e = absurd (omega arith)
few_factor (suc m) (suc n) k h e = let t = few_factor m n k h (omega arith) in omega arith

no_factor : (p k : ℕ) → 0 < k → p * k ≡ 0 → p ≡ 0
no_factor zero k h e = refl
no_factor (suc p) k h e = absurd (omega arith)

same_factor : (m n w : ℕ) → 0 < w → m * w ≡ n * w → m ≡ n
same_factor zero zero w h e = refl
same_factor zero (suc n) w h e = absurd (omega arith)
same_factor (suc m) zero w h e = absurd (omega arith)
same_factor (suc m) (suc n) w h e = ap suc (same_factor m n w h (omega arith))

halved : (k n : ℕ) (s : Share) → HasUnits k n s → HasUnits (k + k) n (half s)
halved k n s u = let e = u.0 in (omega arith, omega (arith, u.1))

pub positive_product : (a b : ℕ) → 0 < a → 0 < b → 0 < a * b
positive_product (suc a) b h i = omega arith
positive_product zero b h i = absurd (omega arith)

more_product : (m n k w : ℕ) → k ≡ m + n → m * w ≤ k * w
more_product m n k w e = let a = ap (λ (z : ℕ). z * w) e in omega arith

put_together : (k m n : ℕ) (s t : Share) → HasUnits k m s → HasUnits k n t → HasUnits k (m + n) (together s t)
put_together k m n s t u v = (
  (let a = ap (λ (z : ℕ). z * t.whole) u.0 in let b = ap (λ (z : ℕ). z * s.whole) v.0 in omega arith),
  positive_product s.whole t.whole u.1 v.1,
)

-- a part, and what is put to it
pub together_part : (s t : Share) → IsSomeShare s → IsSomeShare t → IsSomeShare (together s t)
together_part s t p q =
    let a = positive_product s.parts t.whole p.0 q.1 in (omega arith, positive_product s.whole t.whole p.1 q.1)

module _ {A : Type 0} (share_of : A → Share) where
  abbrev Have : ℕ → ℕ → List A → Type 0
  Have = HaveUnits share_of

  -- one of these, the rest, and what all have with another in its place
  record Parted (k n : ℕ) (xs : List A) (i : ℕ) (v : A) : Type 0 where
    mine : ℕ
    rest : ℕ
    both : n ≡ mine + rest
    units : HasUnits k mine (share_of v)
    with_another : (w : A) (l : ℕ) → HasUnits k l (share_of w) → Have k (l + rest) (set xs i w)

  parted : (k n : ℕ) (xs : List A) (i : ℕ) (v : A) → Have k n xs → get_elem? xs i ≡ some v → Parted k n xs i v
  parted k n [] i v h e = absurd (some-ne-none v (sym e))
  parted k n (x ∷ xs) zero v h e = subst (λ (z : A). Parted k n (x ∷ xs) zero z) (some-injective x v e) (record {
    mine = h.0;
    rest = h.1;
    both = h.2;
    units = h.3;
    with_another = λ w l u. (l, h.1, refl, u, h.4);
  })
  parted k n (x ∷ xs) (suc i) v h e =
      let t = parted k h.1 xs i v h.4 e in let sum = h.2 in let inner = t.both in record {
        mine = t.mine;
        rest = h.0 + t.rest;
        both = omega arith;
        units = t.units;
        with_another = λ w l u. (h.0, l + t.rest, omega arith, h.3, t.with_another w l u);
      }

  counted : (k n m : ℕ) (xs : List A) → n ≡ m → Have k n xs → Have k m xs
  counted k n m xs e h = subst (λ (z : ℕ). Have k z xs) e h

  one_more : (k n l : ℕ) (xs : List A) (w : A) → Have k n xs → HasUnits k l (share_of w)
      → Have k (n + l) (xs ++ w ∷ [])
  one_more k n l [] w h u = (l, 0, omega arith, u, refl)
  one_more k n l (x ∷ xs) w h u = let sum = h.2 in (h.0, h.1 + l, omega arith, h.3, one_more k h.1 l xs w h.4 u)

  doubled : (k n : ℕ) (xs : List A) → Have k n xs → Have (k + k) (n + n) xs
  doubled k n [] h = omega arith
  doubled k n (x ∷ xs) h =
      let sum =
      h.2 in let e = h.3.0 in (h.0 + h.0, h.1 + h.1, omega arith, (omega arith, h.3.1), doubled k h.1 xs h.4)

  within : (k n : ℕ) (xs : List A) (i : ℕ) (v : A) → Have k n xs → get_elem? xs i ≡ some v → (m : ℕ)
      → HasUnits k m (share_of v) → m ≤ n
  within k n xs i v h e m u = let t = parted k n xs i v h e in let b = t.both in
      let is : t.mine ≡ m = same_factor t.mine m (share_of v).whole u.1 (t.units.0 ∙ sym u.0) in omega arith

  -- the units of two of these
  beside : (k n : ℕ) (xs : List A) (i j : ℕ) (v u : A) → Have k n xs → get_elem? xs i ≡ some v
      → get_elem? xs j ≡ some u → j ≢ i
      → (m : ℕ) × HasUnits k m (share_of u) × ((l : ℕ) → HasUnits k l (share_of v) → m + l ≤ n)
  beside k n [] i j v u h e f apart = absurd (some-ne-none v (sym e))
  beside k n (x ∷ xs) zero zero v u h e f apart = absurd (apart refl)
  beside k n (x ∷ xs) zero (suc j) v u h e f apart =
      let t = parted k h.1 xs j u h.4 f in let b = t.both in let sum = h.2 in (
        t.mine,
        t.units,
        λ l y. (
            let y' : HasUnits k l (share_of x) =
            subst (λ (z : A). HasUnits k l (share_of z)) (sym (some-injective x v e)) y in
            let is : h.0 ≡ l = same_factor h.0 l (share_of x).whole y'.1 (h.3.0 ∙ sym y'.0) in omega arith),
      )
  beside k n (x ∷ xs) (suc i) zero v u h e f apart = let sum = h.2 in (
    h.0,
    subst (λ (z : A). HasUnits k h.0 (share_of z)) (some-injective x u f) h.3,
    λ l y.
        (let w = within k h.1 xs i v h.4 e l y in omega arith),
  )
  beside k n (x ∷ xs) (suc i) (suc j) v u h e f apart =
      let sum = h.2 in let t = beside k h.1 xs i j v u h.4 e f (λ s. apart (ap suc s)) in
      (t.0, t.1, λ l y. (let w = t.2 l y in omega arith))

  module _ (xs : List A) (h : AddUp share_of xs) (i : ℕ) (v : A) (at : get_elem? xs i ≡ some v) where
    pub has_whole : 0 < (share_of v).whole
    has_whole = (parted h.units h.units xs i v h.all at).units.1

    -- the share is within the right
    pub within_whole : (share_of v).parts ≤ (share_of v).whole
    within_whole = let t = parted h.units h.units xs i v h.all at in let b = t.both in let a = t.units.0 in
        let few : t.mine * (share_of v).whole ≤ h.units * (share_of v).whole =
        more_product t.mine t.rest h.units (share_of v).whole b in
        few_factor (share_of v).parts (share_of v).whole h.units h.some (omega arith)

    -- the share is not changed
    pub same_share : (w : A) → share_of w ≡ share_of v → AddUp share_of (set xs i w)
    same_share w e = let t = parted h.units h.units xs i v h.all at in record {
      units = h.units;
      some = h.some;
      all = counted h.units (t.mine + t.rest) h.units (set xs i w) (sym t.both)
          (t.with_another w t.mine (subst (HasUnits h.units t.mine) (sym e) t.units));
    }

    -- the share is divided
    pub divided : (w u : A) → share_of w ≡ half (share_of v) → share_of u ≡ half (share_of v)
        → AddUp share_of (set xs i w ++ u ∷ [])
    divided w u e f =
        let k : ℕ = h.units in
        let t = parted k k xs i v h.all at in
        let t' = parted (k + k) (k + k) xs i v (doubled k k xs h.all) at in
        let is : t'.mine ≡ t.mine + t.mine =
        same_factor t'.mine (t.mine + t.mine) (share_of v).whole t.units.1
        (let a = t.units.0 in let b = t'.units.0 in omega arith) in
        let part : HasUnits (k + k) t.mine (half (share_of v)) = halved k t.mine (share_of v) t.units in
        let sum : (t.mine + t'.rest) + t.mine ≡ k + k = (let b = t'.both in omega arith) in record {
          units = k + k;
          some = (let p = h.some in omega arith);
          all = counted (k + k) ((t.mine + t'.rest) + t.mine) (k + k) (set xs i w ++ u ∷ []) sum
              (one_more (k + k) (t.mine + t'.rest) t.mine (set xs i w) u
              (t'.with_another w t.mine (subst (HasUnits (k + k) t.mine) (sym e) part))
              (subst (HasUnits (k + k) t.mine) (sym f) part));
        }

    -- another share is put to it
    pub joined : (j : ℕ) (u w z : A) → j ≢ i → get_elem? xs j ≡ some u
        → share_of w ≡ together (share_of v) (share_of u) → share_of z ≡ none
        → AddUp share_of (set (set xs i w) j z)
    joined j u w z apart there e f =
        let k : ℕ = h.units in
        let t = parted k k xs i v h.all at in
        let s = parted k k xs j u h.all there in
        let sum : HasUnits k (t.mine + s.mine) (together (share_of v) (share_of u)) =
        put_together k t.mine s.mine (share_of v) (share_of u) t.units s.units in
        let mid : Have k ((t.mine + s.mine) + t.rest) (set xs i w) =
        t.with_another w (t.mine + s.mine) (subst (HasUnits k (t.mine + s.mine)) (sym e) sum) in
        let s' = parted k ((t.mine + s.mine) + t.rest) (set xs i w) j u mid (set_else xs i j w apart ∙ there) in
        let is : s'.mine ≡ s.mine =
        same_factor s'.mine s.mine (share_of u).whole s.units.1 (s'.units.0 ∙ sym s.units.0) in
        let left : 0 + s'.rest ≡ k = (let a = s'.both in let b = t.both in omega arith) in record {
          units = k;
          some = h.some;
          all = counted k (0 + s'.rest) k (set (set xs i w) j z) left
              (s'.with_another z 0 (subst (HasUnits k 0) (sym f) (omega arith, omega arith)));
        }

    -- beside the whole there is nothing
    pub nothing_beside : IsWholeShare (share_of v) → (j : ℕ) (u : A) → j ≢ i → get_elem? xs j ≡ some u
        → (share_of u).parts ≡ 0
    nothing_beside whole j u apart there =
        let k : ℕ = h.units in
        let t = parted k k xs i v h.all at in
        let same = ap (λ (z : ℕ). z * k) whole in
        let is : t.mine ≡ k =
        same_factor t.mine k (share_of v).whole t.units.1 (let a = t.units.0 in omega arith) in
        let b = beside k k xs i j v u h.all at there apart in
        let m : ℕ = b.0 in
        let few : m + t.mine ≤ k = b.2 t.mine t.units in
        let zero_units : m ≡ 0 = omega arith in
        let e =
        b.1.0 in let z =
        ap (λ (x : ℕ). x * (share_of u).whole) zero_units in no_factor (share_of u).parts k h.some
        (omega arith)
