-- Each step keeps the rule.
use Rattle.std.proofs.Common.{◌≡◌, ◌≢◌, inl, inr, ⊎_elim, ℕ, zero, suc, ◌+◌, ◌%◌, ◌^◌, ◌<◌, ◌≤◌, Bool, true, false, leb, ◌||◌, min, List, [], ◌∷◌, ◌++◌, length, set, get_or, refl, sym, ap, ◌∙◌, subst, arith, length-append, length-set, get_or-set_same}
use Rattle.std.proofs.lemmas.Bool.Decides.{nat_tests}
use mathlib.Core.Logic.{dite}
use mathlib.Core.Option.{none, some, some-injective, some-ne-none}
use native.Mathlib.Decide.{ℕ_discrete, dec_le, dec_lt}
use lib.ListN.{get_elem?}
use Rattle.atomic_table.specs.Table.{State, Me, step, keeps, stepped, Allows, Splits, Joins, opening}
use Rattle.atomic_table.proofs.Lists.{at_set, at_snoc, set_else}
use Rattle.pgw_registry.specs.declared.numbers.Hand.{Hand}
use Rattle.pgw_registry.specs.Numbers.{total, times, above, weight, founder, newcomer, spent_hand, with_seat_made, both_of, saw, drew, IsDistinct, NoneBelow, DrewAll, IsIdleOrBegins, KeepsProcessNumbers, Ruled, Looked, Compared, DrewNumber, DrewForSeat}
use Rattle.pgw_registry.specs.Shares.{IsSomeShare}
use Rattle.pgw_registry.proofs.Shares.{together_part, has_whole, same_share, divided, joined, nothing_beside}
use Rattle.pgw_registry.proofs.Totals.{total_set, total_snoc, total_has, total_only, total_le, times-append, above-append, times_here, times_else, above_low, above_high}

abbrev M : Type 0
M = Me (Unit {0}) Hand

abbrev St : Type 0
St = State (Unit {0}) Hand

abbrev Each : ℕ → ℕ → List Hand → Type 0
Each first word views =
    (i : ℕ) (v : Hand) → get_elem? views i ≡ some v
    → (v.seen ≤ word) × (above v.drawn ≤ v.seats) × (v.begins ≤ first)

each_set : (first word : ℕ) (views : List Hand) (id : ℕ) (w : Hand) → Each first word views → w.seen ≤ word
    → above w.drawn ≤ w.seats → w.begins ≤ first → Each first word (set views id w)
each_set first word views id w h a b c j u e = ⊎_elim
    (λ (t : (j ≡ id) × (w ≡ u)). subst
    (λ (z : Hand). (z.seen ≤ word) × (above z.drawn ≤ z.seats) × (z.begins ≤ first)) t.1 (a, b, c))
    (λ (t : (j ≢ id) × (get_elem? views j ≡ some u)). h j u t.1)
    (at_set views id j w u e)

each_later : (first word : ℕ) (views : List Hand) → Each first word views → Each first (word + 1) views
each_later first word views h j u e = let t = h j u e in (omega arith, t.1, t.2)

abbrev Sharing : ℕ → List Hand → Type 0
Sharing first views = (i : ℕ) (v : Hand) → get_elem? views i ≡ some v → IsIdleOrBegins first v

sharing_set : (first : ℕ) (views : List Hand) (id : ℕ) (w : Hand) → Sharing first views → IsIdleOrBegins first w
    → Sharing first (set views id w)
sharing_set first views id w h here j u e = ⊎_elim
    (λ (t : (j ≡ id) × (w ≡ u)). subst (IsIdleOrBegins first) t.1 here)
    (λ (t : (j ≢ id) × (get_elem? views j ≡ some u)). h j u t.1)
    (at_set views id j w u e)

sharing_snoc : (first : ℕ) (views : List Hand) (w : Hand) → Sharing first views → IsIdleOrBegins first w
    → Sharing first (views ++ w ∷ [])
sharing_snoc first views w h here j u e =
    ⊎_elim (λ (was : get_elem? views j ≡ some u). h j u was)
    (λ (same : w ≡ u). subst (IsIdleOrBegins first) same here) (at_snoc views w u j e)

-- a view that has a share begins at the first number
begins_first : (first : ℕ) (v : Hand) → 0 < v.share.parts → IsIdleOrBegins first v → v.begins ≡ first
begins_first first v part h =
    ⊎_elim (λ (t : (v.share.parts ≡ 0) × (v.drawn ≡ [])). absurd (omega arith))
    (λ (t : (0 < v.share.parts) × (v.begins ≡ first)). t.1) h

-- a view with the whole share has drawn each number up to the word
drew_all : (first word : ℕ) (views : List Hand) (id : ℕ) (v : Hand) → KeepsProcessNumbers first word views
    → get_elem? views id ≡ some v → DrewAll v.begins v.drawn v.share word
drew_all first word views id v k at whole =
    let some_whole = has_whole (λ (u : Hand). u.share) views k.shares id v at in
    let from : v.begins ≡ first = begins_first first v (omega arith) (k.sharing id v at) in
    let sum = k.counted in
    let only = total_only (λ (u : Hand). length u.drawn) views id v at (λ j u ne e.
    let none = nothing_beside (λ (y : Hand). y.share) views k.shares id v at whole j u ne e in
    ⊎_elim (λ (t : (u.share.parts ≡ 0) × (u.drawn ≡ [])). ap length t.1)
    (λ (t : (0 < u.share.parts) × (u.begins ≡ first)). absurd (omega arith)) (k.sharing j u e)) in
    omega arith

-- the count of a number in a view is at most that in all
pub is_distinct : (first word : ℕ) (views : List Hand) (id : ℕ) (v : Hand) → KeepsProcessNumbers first word views
    → get_elem? views id ≡ some v → IsDistinct v.drawn
is_distinct first word views id v k at x =
    let m = total_has (λ u. times x u.drawn) views id v at in go (dec_lt x first) (dec_lt x word) m
  where
    go : Dec (x < first) → Dec (x < word) → times x v.drawn ≤ total (λ u. times x u.drawn) views
        → times x v.drawn ≤ 1
    go (yes a) _ m = let z = k.none x (inl a) in omega arith
    go (no a) (yes b) m = let z = k.once x (omega arith) b in omega arith
    go (no a) (no b) m = let z = k.none x (inr (omega arith)) in omega arith

pub none_below : (first word : ℕ) (views : List Hand) (id : ℕ) (v : Hand) → KeepsProcessNumbers first word views
    → get_elem? views id ≡ some v → NoneBelow v.begins v.drawn
none_below first word views id v k at x low =
    let m =
    total_has (λ u. times x u.drawn) views id v at in let t =
    k.each id v at in let z = k.none x (inl (omega arith)) in omega arith

-- the word is far from its end
pub never_wraps : (first word : ℕ) (views : List Hand) → KeepsProcessNumbers first word views → word ≤ 4294967297
never_wraps first word views k =
    let a =
    total_le (λ v. above v.drawn) (λ v. v.seats + weight v.owes) views
    (λ i v e. let t = k.each i v e in omega arith) in
    let b = k.over in let c = k.seated in omega arith

-- a view is changed in what it has seen alone
sees : (first word : ℕ) (views : List Hand) (id : ℕ) (v w : Hand) → KeepsProcessNumbers first word views
    → get_elem? views id ≡ some v
    → w.drawn ≡ v.drawn → w.seats ≡ v.seats → w.owes ≡ v.owes → w.begins ≡ v.begins → w.share ≡ v.share
    → w.seen ≤ word → KeepsProcessNumbers first word (set views id w)
sees first word views id v w k at same seats owes from share low = record {
  begins = k.begins;
  grows = k.grows;
  none = λ x h. (let s = total_set (λ u. times x u.drawn) views id v w at in let z = k.none x h in let e =
      ap (times x) same in omega arith);
  once = λ x a b. (let s = total_set (λ u. times x u.drawn) views id v w at in let z = k.once x a b in let e =
      ap (times x) same in omega arith);
  each = each_set first word views id w k.each low
      (let t = k.each id v at in let e = ap above same in omega arith) (let t = k.each id v at in omega arith);
  seated =
      (let s = total_set (λ u. u.seats + weight u.owes) views id v w at in let z = k.seated in let e = ap weight
      owes in omega arith);
  over = (let s = total_set (λ u. above u.drawn) views id v w at in let z = k.over in let e = ap above same in
      omega arith);
  counted =
      (let s = total_set (λ u. length u.drawn) views id v w at in let z = k.counted in let e = ap (length {A = ℕ})
      same in omega arith);
  shares = same_share (λ (u : Hand). u.share) views k.shares id v at w share;
  sharing = sharing_set first views id w k.sharing (⊎_elim
      (λ (t : (v.share.parts ≡ 0) × (v.drawn ≡ [])). inl (ap (λ s. s.parts) share ∙ t.0, same ∙ t.1))
      (λ (t : (0 < v.share.parts) × (v.begins ≡ first)). inr
      (let e = ap (λ s. s.parts) share in (omega arith, from ∙ t.1)))
      (k.sharing id v at));
}

-- the word's number is drawn
draws : (first n : ℕ) (views : List Hand) (id : ℕ) (v : Hand) (b : Bool) → KeepsProcessNumbers first n views
    → get_elem? views id ≡ some v → 0 < v.seats → above v.drawn ≡ 0 → 0 < v.share.parts
    → weight b + min n 2147483648 ≤ weight v.owes + min (n + 1) 2147483648
    → KeepsProcessNumbers first (n + 1) (set views id (drew v n b))
draws first n views id v b k at seat none_above part room = let w : Hand = drew v n b in record {
  begins = k.begins;
  grows = (let g = k.grows in omega arith);
  none = λ x h. (let s = total_set (λ u. times x u.drawn) views id v w at in let p = times-append x v.drawn (n ∷ []) in
      let g = k.grows in
      let apart : n ≢ x = λ e. ⊎_elim (λ (t : x < first). omega arith) (λ (t : n + 1 ≤ x). omega arith) h in
      let o = times_else x n apart in
      let z =
      k.none x (⊎_elim (λ (t : x < first). inl t) (λ (t : n + 1 ≤ x). inr (omega arith)) h) in omega arith);
  once = λ x a c. (let s = total_set (λ u. times x u.drawn) views id v w at in let p =
      times-append x v.drawn (n ∷ []) in
      dite (ℕ_discrete n x)
      (λ (e : n ≡ x). let z = k.none x (inr (omega arith)) in let o = times_here x in let q = ap
      (λ (m : ℕ). times x (m ∷ [])) e in omega arith)
      (λ (ne : n ≢ x). let z = k.once x a (omega arith) in let o = times_else x n ne in omega arith));
  each = each_set first (n + 1) views id w (each_later first n views k.each) (omega arith)
      (let p = above-append v.drawn (n ∷ []) in dite (dec_le n 2147483647)
      (λ (low : n ≤ 2147483647). let q = above_low n low in omega arith)
      (λ (high : ¬ (n ≤ 2147483647)). let q = above_high n (omega arith) in omega arith))
      (k.each id v at).2;
  seated = (let s = total_set (λ u. u.seats + weight u.owes) views id v w at in let z = k.seated in omega arith);
  over = (let s = total_set (λ u. above u.drawn) views id v w at in let z = k.over in let p = above-append v.drawn
      (n ∷ []) in
      dite (dec_le n 2147483647) (λ (low : n ≤ 2147483647). let q = above_low n low in omega arith)
      (λ (high : ¬ (n ≤ 2147483647)). let q = above_high n (omega arith) in omega arith));
  counted =
      (let s = total_set (λ u. length u.drawn) views id v w at in let z = k.counted in let p = length-append
      v.drawn (n ∷ []) in omega arith);
  shares = same_share (λ (u : Hand). u.share) views k.shares id v at w refl;
  sharing = sharing_set first views id w k.sharing (inr (part, begins_first first v part (k.sharing id v at)));
}

splits : (first word : ℕ) (views : List Hand) (id : ℕ) (v : Hand) → KeepsProcessNumbers first word views
    → get_elem? views id ≡ some v → v.owes ≡ true
    → KeepsProcessNumbers first word (set views id (with_seat_made v) ++ newcomer v ∷ [])
splits first word views id v k at owes =
    let w : Hand =
    with_seat_made v in let all : List Hand = set views id w in let new : Hand = newcomer v in record {
      begins = k.begins;
      grows = k.grows;
      none = λ x h. (let s = total_set (λ u. times x u.drawn) views id v w at in let t =
          total_snoc (λ u. times x u.drawn) all new in let z = k.none x h in omega arith);
      once = λ x a b. (let s = total_set (λ u. times x u.drawn) views id v w at in let t =
          total_snoc (λ u. times x u.drawn) all new in let z = k.once x a b in omega arith);
      each = λ j u e. ⊎_elim
          (λ (was : get_elem? all j ≡ some u). each_set first word views id w k.each (k.each id v at).0
          (k.each id v at).1 (k.each id v at).2 j u was)
          (λ (same : new ≡ u). subst (λ (z : Hand). (z.seen ≤ word) × (above z.drawn ≤ z.seats) × (z.begins ≤ first))
          same (omega arith, omega arith, (k.each id v at).2)) (at_snoc all new u j e);
      seated =
          (let s = total_set (λ u. u.seats + weight u.owes) views id v w at in let t = total_snoc
          (λ u. u.seats + weight u.owes) all new in let z = k.seated in let o = ap weight owes in omega arith);
      over = (let s = total_set (λ u. above u.drawn) views id v w at in let t = total_snoc (λ u. above u.drawn) all
          new in let z = k.over in omega arith);
      counted =
          (let s = total_set (λ u. length u.drawn) views id v w at in let t = total_snoc (λ u. length u.drawn) all new
          in let z = k.counted in omega arith);
      shares = divided (λ (u : Hand). u.share) views k.shares id v at w new refl refl;
      sharing = sharing_snoc first all new
          (sharing_set first views id w k.sharing (⊎_elim
          (λ (t : (v.share.parts ≡ 0) × (v.drawn ≡ [])). inl t)
          (λ (t : (0 < v.share.parts) × (v.begins ≡ first)). inr t) (k.sharing id v at)))
          (⊎_elim (λ (t : (v.share.parts ≡ 0) × (v.drawn ≡ [])). inl (t.0, refl))
          (λ (t : (0 < v.share.parts) × (v.begins ≡ first)). inr t) (k.sharing id v at));
    }

weight_or : (a b : Bool) → weight (a || b) ≤ weight a + weight b
weight_or true b = omega arith
weight_or false b = omega arith

joins : (first word : ℕ) (views : List Hand) (id other : ℕ) (v u : Hand) → IsSomeShare v.share
    → IsSomeShare u.share → KeepsProcessNumbers first word views → get_elem? views id ≡ some v → ¬ (other ≡ id)
    → get_elem? (set views id (both_of v u)) other ≡ some u
    → KeepsProcessNumbers first word (set (set views id (both_of v u)) other spent_hand)
joins first word views id other v u part part' k at apart there =
    let w : Hand = both_of v u in let mid : List Hand = set views id w in
    let was : get_elem? views other ≡ some u = sym (set_else views id other w apart) ∙ there in record {
      begins = k.begins;
      grows = k.grows;
      none = λ x h. (let s = total_set (λ y. times x y.drawn) views id v w at in let t =
          total_set (λ y. times x y.drawn) mid other u spent_hand there in let p = times-append x v.drawn u.drawn in
          let z = k.none x h in omega arith);
      once = λ x a b. (let s = total_set (λ y. times x y.drawn) views id v w at in let t =
          total_set (λ y. times x y.drawn) mid other u spent_hand there in let p = times-append x v.drawn u.drawn in
          let z = k.once x a b in omega arith);
      each = each_set first word mid other spent_hand
          (each_set first word views id w k.each
          (let a = k.each id v at in let b = k.each other u was in omega arith)
          (let a = k.each id v at in let b = k.each other u was in let p = above-append v.drawn u.drawn in omega
          arith)
          (k.each id v at).2)
          (omega arith) (omega arith) (omega arith);
      seated =
          (let s = total_set (λ y. y.seats + weight y.owes) views id v w at in let t = total_set
          (λ y. y.seats + weight y.owes) mid other u spent_hand there in let z =
          k.seated in let o = weight_or v.owes u.owes in omega arith);
      over = (let s = total_set (λ y. above y.drawn) views id v w at in let t = total_set (λ y. above y.drawn) mid
          other u spent_hand there in let z = k.over in let p = above-append v.drawn u.drawn in omega arith);
      counted =
          (let s = total_set (λ y. length y.drawn) views id v w at in let t = total_set (λ y. length y.drawn) mid
          other u spent_hand there in let z =
          k.counted in let p = length-append v.drawn u.drawn in omega arith);
      shares = joined (λ (y : Hand). y.share) views k.shares id v at other u w spent_hand apart was refl refl;
      sharing = sharing_set first mid other spent_hand
          (sharing_set first views id w k.sharing
          (inr (
            (together_part v.share u.share part part').0,
            begins_first first v part.0
                (k.sharing id v at),
          )))
          (inl (refl, refl));
    }

-- the rule at the start
pub begins : (first : ℕ) → first ≤ 2147483647 → Ruled first (opening (first ∷ []) [] (founder first))
begins first low = (
  refl,
  record {
    begins = low;
    grows = omega arith;
    none = λ x h. refl;
    once = λ x a b. absurd (omega arith);
    each = one;
    seated = omega arith;
    over = omega arith;
    counted = omega arith;
    shares = record { units = 1; some = omega arith; all = (1, 0, refl, (refl, omega arith), refl) };
    sharing = shared;
  },
)
  where
    shared : Sharing first (founder first ∷ [])
    shared zero v e = subst (IsIdleOrBegins first) (some-injective _ _ e) (inr (omega arith, refl))
    shared (suc i) v e = absurd (some-ne-none v (sym e))

    one : Each first first (founder first ∷ [])
    one zero v e =
        subst (λ (z : Hand). (z.seen ≤ first) × (above z.drawn ≤ z.seats) × (z.begins ≤ first))
        (some-injective _ _ e) (omega arith, omega arith, omega arith)
    one (suc i) v e = absurd (some-ne-none v (sym e))

placed : (first n : ℕ) (s : St) (id : ℕ) (me : M) (w : Hand) → Ruled first s
    → KeepsProcessNumbers first n (set s.views id w) → Ruled first (stepped s 0 n id me.1 w keeps)
placed first n s id me w r k = let wide = r.0 in (
  length-set s.words 0 n
      ∙ wide,
  subst (λ (z : ℕ). KeepsProcessNumbers first z (set s.views id w))
      (sym (get_or-set_same s.words 0 n 0 (omega arith))) k,
)

pub looks : (first slots id : ℕ) (me : M)
    → Allows (Ruled first) slots id me 0 (λ n. n) (Looked (step slots 0 0 0 none) me)
looks first slots id me s r _ at _ =
    let n : ℕ = get_or s.words 0 0 in let k : KeepsProcessNumbers first n s.views = r.1 in let v = me.0 in (
      saw v n,
      keeps,
      tt,
      placed first n s id me (saw v n) r
          (sees first n s.views id v (saw v n) k at refl refl refl refl refl (omega arith)),
      (
        refl,
        refl,
        (k.each id v at).0,
        (λ low. (let a = total_has (λ u. above u.drawn) s.views id v at in let b = k.over in omega arith)),
        drew_all first n s.views id v k at,
      ),
    )

pub compares : (first slots id : ℕ) (me : M)
    → Allows (Ruled first) slots id me 0 (λ n. n) (Compared (step slots 0 0 0 none) me)
compares first slots id me s r _ at _ =
    let n : ℕ = get_or s.words 0 0 in let k : KeepsProcessNumbers first n s.views = r.1 in let v = me.0 in (
      v,
      keeps,
      tt,
      placed first n s id me v r (sees first n s.views id v v k at refl refl refl refl refl (k.each id v at).0),
      (refl, refl, is_distinct first n s.views id v k at, none_below first n s.views id v k at),
    )

drawing : (first slots id : ℕ) (me : M) (mark : ℕ → Bool) → 0 < me.0.seats → above me.0.drawn ≡ 0
    → 0 < me.0.share.parts
    → ((n : ℕ) → weight (mark n) + min n 2147483648 ≤ weight me.0.owes + min (n + 1) 2147483648)
    → Allows (Ruled first) slots id me 0 (λ n. (n + 1) % 2 ^ 64)
    (λ n w. (w.0 ≡ drew me.0 n (mark n)) × (w.1 ≡ me.1) × (me.0.seen ≤ n) × IsDistinct w.0.drawn × NoneBelow
    w.0.begins w.0.drawn × (me.0.begins ≤ n) × DrewAll me.0.begins me.0.drawn me.0.share n)
drawing first slots id me mark seat none_above part room s r _ at _ =
    let n : ℕ = get_or s.words 0 0 in let k : KeepsProcessNumbers first n s.views = r.1 in let v = me.0 in
    let w : Hand = drew v n (mark n) in let far = never_wraps first n s.views k in
    let next : (n + 1) % 2 ^ 64 ≡ n + 1 = omega arith in
    let after : KeepsProcessNumbers first (n + 1) (set s.views id w) =
    draws first n s.views id v (mark n) k at seat none_above part (room n) in (
      w,
      keeps,
      tt,
      subst (λ (z : ℕ). Ruled first (stepped s 0 z id me.1 w keeps)) (sym next)
          (placed first (n + 1) s id me w r after),
      (
        refl,
        refl,
        (k.each id v at).0,
        is_distinct first (n + 1) (set s.views id w) id w after (set_at s.views id v w at),
        none_below first (n + 1) (set s.views id w) id w after (set_at s.views id v w at),
        (let g = k.grows in let t = k.each id v at in omega arith),
        drew_all first n s.views id v k at,
      ),
    )
  where
    set_at : (l : List Hand) (i : ℕ) (v w : Hand) → get_elem? l i ≡ some v → get_elem? (set l i w) i ≡ some w
    set_at [] i v w e = absurd (some-ne-none v (sym e))
    set_at (x ∷ xs) zero v w e = refl
    set_at (x ∷ xs) (suc i) v w e = set_at xs i v w e

pub draws_one : (first slots id : ℕ) (me : M) → 0 < me.0.seats → above me.0.drawn ≡ 0 → 0 < me.0.share.parts
    → Allows (Ruled first) slots id me 0 (λ n. (n + 1) % 2 ^ 64) (DrewNumber (step slots 0 1 0 none) me)
draws_one first slots id me seat low part =
    drawing first slots id me (λ _. me.0.owes) seat low part (λ n. omega arith)

pub draws_for_seat : (first slots id : ℕ) (me : M) → 0 < me.0.seats → above me.0.drawn ≡ 0 → 0 < me.0.share.parts
    → Allows (Ruled first) slots id me 0 (λ n. (n + 1) % 2 ^ 64) (DrewForSeat (step slots 0 1 0 none) me)
draws_for_seat first slots id me seat low part =
    drawing first slots id me (λ n. leb n 2147483647) seat low part (λ n. room n (leb n 2147483647) refl)
  where
    room : (n : ℕ) (b : Bool) → leb n 2147483647 ≡ b
        → weight b + min n 2147483648 ≤ weight me.0.owes + min (n + 1) 2147483648
    room n true e = let h : n ≤ 2147483647 = grind (arith, nat_tests) in omega arith
    room n false e = omega arith

pub forks : (first id : ℕ) (v : Hand) → v.owes ≡ true → Splits (Ruled first) id v (with_seat_made v) (newcomer v)
forks first id v owes s r at = (r.0, splits first (get_or s.words 0 0) s.views id v r.1 at owes)

pub merges : (first id other : ℕ) (v u : Hand) → IsSomeShare v.share → IsSomeShare u.share
    → Joins (Ruled first) id v other u (both_of v u) spent_hand
merges first id other v u part part' s r at apart there =
    (r.0, joins first (get_or s.words 0 0) s.views id other v u part part' r.1 at apart there)
