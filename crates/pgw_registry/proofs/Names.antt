-- Each pair is the one with which its handle was made.
use Rattle.std.proofs.Common.{◌≡◌, ◌≢◌, ◌⊎◌, inl, inr, ⊎_elim, ℕ, ℤ, ◌+◌, Bool, true, false, true≢false, not, eqb, cond, List, Option, Some, None, Ordering, Less, Equal, Greater, refl, sym, ap, ◌∙◌, subst, arith}
use Rattle.std.proofs.lemmas.Bool.Decides.{nat_tests}
use Rattle.std.specs.Ordering.{nat_cmp, eq_by_cmp, is_eq}
use Rattle.std.specs.Cmp.{nat_cmp_total, eq_by_cmp_equiv}
use Rattle.std.specs.FinMap as map
use Rattle.pgw_registry.specs.Pairs.{PairMap, pair_cmp, is_handle, without_handle}
use Rattle.pgw_registry.specs.declared.pairs.Pair.{Pair}
use Rattle.pgw_registry.specs.Registry.{NamesPairs, cancel_key_pair}
use Rattle.pgw_registry.proofs.Nesting.{pair_cmp_total, pairs_alone}
use Rattle.pgw_registry.proofs.Holders.{cond_is, some_is, not_none, numbers_apart, number_itself}

abbrev Names : Type 0
Names = map.FinMap nat_cmp Pair

is_tie : (r : Ordering) → is_eq r ≡ true → r ≡ Equal
is_tie Less e = absurd (cc)
is_tie Equal e = refl
is_tie Greater e = absurd (cc)

pairs_tied : (x y : ℤ × List ℕ) → eq_by_cmp pair_cmp x y ≡ true → x ≡ y
pairs_tied x y e = pairs_alone x y (is_tie (pair_cmp x y) e)

pair_itself : (x : ℤ × List ℕ) → eq_by_cmp pair_cmp x x ≡ true
pair_itself x = (eq_by_cmp_equiv pair_cmp_total).refl x

-- what is there after a pair is written, removed, or forgotten with its handle
in_pairs_written : (m : PairMap) (k : ℤ × List ℕ) (v : ℕ) (q : ℤ × List ℕ) (h : ℕ)
    → map.get (map.insert m k v) q ≡ Some h → ((q ≡ k) × (v ≡ h)) ⊎ (map.get m q ≡ Some h)
in_pairs_written m k v q h e = ⊎_elim
    (λ (t : (eq_by_cmp pair_cmp q k ≡ true) × (Some v ≡ Some h)). inl (pairs_tied q k t.0, some_is v h t.1))
    (λ (t : (eq_by_cmp pair_cmp q k ≡ false) × (map.get m q ≡ Some h)). inr t.1)
    (cond_is (eq_by_cmp pair_cmp q k) (Some v) (map.get m q) h
    (subst (λ o. o ≡ Some h) (map.get-insert pair_cmp_total m k v q) e))

in_pairs_removed : (m : PairMap) (k q : ℤ × List ℕ) (h : ℕ) → map.get (map.remove m k) q ≡ Some h
    → (q ≢ k) × (map.get m q ≡ Some h)
in_pairs_removed m k q h e = ⊎_elim
    (λ (t : (eq_by_cmp pair_cmp q k ≡ true) × (None ≡ Some h)). absurd (not_none h t.1))
    (λ (t : (eq_by_cmp pair_cmp q k ≡ false) × (map.get m q ≡ Some h)). (
      (λ s. true≢false (sym (pair_itself k)
          ∙ ap (λ z. eq_by_cmp pair_cmp z k) (sym s) ∙ t.0)),
      t.1,
    ))
    (cond_is (eq_by_cmp pair_cmp q k) None (map.get m q) h
    (subst (λ o. o ≡ Some h) (map.get-remove pair_cmp_total m k q) e))

get-without_handle : (m : PairMap) (h : ℕ) (q : ℤ × List ℕ)
    → map.get (without_handle m h) q ≡ cond (not (is_handle h (map.get m q))) (map.get m q) None
get-without_handle m h q =
    map.get-retain_keys m (λ p. not (is_handle h (map.get m p))) q
    (λ x t. ap (λ z. not (is_handle h (map.get m z))) (sym (pairs_alone q x t)))

left_by : (h n : ℕ) (o : Option ℕ) → cond (not (is_handle h o)) o None ≡ Some n → (o ≡ Some n) × (n ≢ h)
left_by h n None e = absurd (not_none n e)
left_by h n (Some m) e = by (eqb m h) refl e
  where
    by : (b : Bool) → eqb m h ≡ b → cond (not b) (Some m) None ≡ Some n → (Some m ≡ Some n) × (n ≢ h)
    by true t e = absurd (not_none n e)
    by false t e = let s = some_is m n e in (e, grind (arith, nat_tests))

in_pairs_left : (m : PairMap) (h : ℕ) (q : ℤ × List ℕ) (n : ℕ) → map.get (without_handle m h) q ≡ Some n
    → (map.get m q ≡ Some n) × (n ≢ h)
in_pairs_left m h q n e = left_by h n (map.get m q) (subst (λ o. o ≡ Some n) (get-without_handle m h q) e)

-- a name at another number
name_kept : (names : Names) (k : ℕ) (v : Pair) (h : ℕ) → h ≢ k
    → map.get (map.insert names k v) h ≡ map.get names h
name_kept names k v h apart =
    map.get-insert nat_cmp_total names k v h
    ∙ ap (λ b. cond b (Some v) (map.get names h)) (numbers_apart h k apart)

name_left : (names : Names) (k h : ℕ) → h ≢ k → map.get (map.remove names k) h ≡ map.get names h
name_left names k h apart =
    map.get-remove nat_cmp_total names k h ∙ ap (λ b. cond b None (map.get names h)) (numbers_apart h k apart)

name_written : (names : Names) (k : ℕ) (v : Pair) → map.get (map.insert names k v) k ≡ Some v
name_written names k v =
    map.get-insert nat_cmp_total names k v k ∙ ap (λ b. cond b (Some v) (map.get names k)) (number_itself k)

-- one name names one pair
pub one_pair : (p q : ℤ × List ℕ) → Some (cancel_key_pair p.0 p.1) ≡ Some (cancel_key_pair q.0 q.1) → p ≡ q
one_pair p q e =
    let s = some_is (cancel_key_pair p.0 p.1) (cancel_key_pair q.0 q.1) e in λ i. ((s i).pid, (s i).key)

pub names_nothing : (pairs : PairMap) (names : Names) → pairs ≡ map.empty → NamesPairs pairs names 0
names_nothing pairs names is pid key h e =
    absurd (not_none h (subst (λ o. o ≡ Some h) (ap (λ m. map.get m (pid, key)) is
    ∙ map.get-empty pair_cmp (pid, key)) e))

pub names_later : (pairs : PairMap) (names : Names) (made : ℕ) → NamesPairs pairs names made
    → NamesPairs pairs names (made + 1)
names_later pairs names made n pid key h e = let t = n pid key h e in (omega arith, t.1)

-- a name that no pair has is written
pub names_spare : (pairs : PairMap) (names new : Names) (made : ℕ) (v : Pair)
    → new ≡ map.insert names (made + 1) v → NamesPairs pairs names made → NamesPairs pairs new made
names_spare pairs names new made v is n pid key h e = let t = n pid key h e in let low = t.0 in
    (low, ap (λ m. map.get m h) is ∙ name_kept names (made + 1) v h (λ s. omega arith) ∙ t.1)

-- a pair is added
pub names_more : (pairs new : PairMap) (names : Names) (made : ℕ) (pid : ℤ) (key : List ℕ)
    → new ≡ map.insert pairs (pid, key) (made + 1) → map.get names (made + 1) ≡ Some (cancel_key_pair pid key)
    → NamesPairs pairs names made → NamesPairs new names (made + 1)
names_more pairs new names made pid key is named n p k h e = ⊎_elim
    (λ (t : ((p, k) ≡ (pid, key)) × (made + 1 ≡ h)). (let low = t.1 in (
      omega arith,
      ap (map.get names) (sym t.1)
          ∙ named ∙ (λ i. Some (cancel_key_pair (sym t.0 i).0 (sym t.0 i).1)),
    )))
    (λ (t : map.get pairs (p, k) ≡ Some h). names_later pairs names made n p k h t)
    (in_pairs_written pairs (pid, key) (made + 1) (p, k) h (subst (λ m. map.get m (p, k) ≡ Some h) is e))

pub name_is : (names new : Names) (made : ℕ) (v : Pair) → new ≡ map.insert names (made + 1) v
    → map.get new (made + 1) ≡ Some v
name_is names new made v is = ap (λ m. map.get m (made + 1)) is ∙ name_written names (made + 1) v

-- a pair is removed with its name
pub names_without_pair : (pairs new : PairMap) (names left : Names) (made : ℕ) (pid : ℤ) (key : List ℕ) (h : ℕ)
    → map.get pairs (pid, key) ≡ Some h → new ≡ map.remove pairs (pid, key) → left ≡ map.remove names h
    → NamesPairs pairs names made → NamesPairs new left made
names_without_pair pairs new names left made pid key h there is gone n p k m e =
    let old = in_pairs_removed pairs (pid, key) (p, k) m (subst (λ z. map.get z (p, k) ≡ Some m) is e) in
    let t = n p k m old.1 in
    let apart : m ≢ h =
    λ s. old.0 (one_pair (p, k) (pid, key) (sym t.1 ∙ ap (map.get names) s ∙ (n pid key h there).1)) in
    (t.0, ap (λ z. map.get z m) gone ∙ name_left names h m apart ∙ t.1)

-- the pairs of a handle are removed with its name
pub names_without_handle : (pairs new : PairMap) (names left : Names) (made h : ℕ) → new ≡ without_handle pairs h
    → left ≡ map.remove names h → NamesPairs pairs names made → NamesPairs new left made
names_without_handle pairs new names left made h is gone n p k m e =
    let old = in_pairs_left pairs h (p, k) m (subst (λ z. map.get z (p, k) ≡ Some m) is e) in
    let t = n p k m old.0 in
    (t.0, ap (λ z. map.get z m) gone ∙ name_left names h m old.1 ∙ t.1)

-- a pair that is written and removed
pub put_back : (m : PairMap) (k : ℤ × List ℕ) (v : ℕ) → map.get m k ≡ None → map.remove (map.insert m k v) k ≡ m
put_back m k v none = map.same_map pair_cmp_total pairs_alone (map.remove (map.insert m k v) k) m (λ q.
    map.get-remove pair_cmp_total (map.insert m k v) k q
    ∙ ap (cond (eq_by_cmp pair_cmp q k) None) (map.get-insert pair_cmp_total m k v q)
    ∙ by q (eq_by_cmp pair_cmp q k) refl)
  where
    by : (q : ℤ × List ℕ) (b : Bool) → eq_by_cmp pair_cmp q k ≡ b
        → cond b None (cond b (Some v) (map.get m q)) ≡ map.get m q
    by q true t = sym (ap (map.get m) (pairs_tied q k t) ∙ none)
    by q false t = refl

-- ---- the pairs that have a handle

kept_by : (h : ℕ) (o : Option ℕ) → (o ≢ Some h) → o ≡ cond (not (is_handle h o)) o None
kept_by h None apart = refl
kept_by h (Some m) apart = by (eqb m h) refl
  where
    by : (b : Bool) → eqb m h ≡ b → Some m ≡ cond (not b) (Some m) None
    by true t = absurd (apart (ap Some (grind (arith, nat_tests))))
    by false t = refl

-- there is none
pub forgets_none : (pairs : PairMap) (h : ℕ) → ((q : ℤ × List ℕ) → map.get pairs q ≢ Some h)
    → pairs ≡ without_handle pairs h
forgets_none pairs h none =
    map.same_map pair_cmp_total pairs_alone pairs (without_handle pairs h)
    (λ q. kept_by h (map.get pairs q) (none q)
    ∙ sym (get-without_handle pairs h q))

-- there is one
pub forgets_one : (pairs : PairMap) (h : ℕ) (k : ℤ × List ℕ) → map.get pairs k ≡ Some h
    → ((q : ℤ × List ℕ) → map.get pairs q ≡ Some h → q ≡ k) → map.remove pairs k ≡ without_handle pairs h
forgets_one pairs h k there alone =
    map.same_map pair_cmp_total pairs_alone (map.remove pairs k) (without_handle pairs h) (λ q.
    map.get-remove pair_cmp_total pairs k q ∙ by q (eq_by_cmp pair_cmp q k) refl
    ∙ sym (get-without_handle pairs h q))
  where
    self : (o : Option ℕ) → o ≡ Some h → None ≡ cond (not (is_handle h o)) o None
    self None e = refl
    self (Some m) e =
        let s =
        some_is m h e in let t : eqb m h ≡ true =
        grind (arith, nat_tests) in sym (ap (λ b. cond (not b) (Some m) None) t)

    by : (q : ℤ × List ℕ) (b : Bool) → eq_by_cmp pair_cmp q k ≡ b
        → cond b None (map.get pairs q) ≡ cond (not (is_handle h (map.get pairs q))) (map.get pairs q) None
    by q true t = self (map.get pairs q) (ap (map.get pairs) (pairs_tied q k t) ∙ there)
    by q false t =
        kept_by h (map.get pairs q) (λ e. true≢false (sym (pair_itself k)
        ∙ ap (λ z. eq_by_cmp pair_cmp z k) (sym (alone q e)) ∙ t))

-- the pair that may have it
pub named_only : (pairs : PairMap) (names : Names) (made h : ℕ) (p : Pair) (k : ℤ × List ℕ)
    → NamesPairs pairs names made → map.get names h ≡ Some p → (p.pid, p.key) ≡ k → (q : ℤ × List ℕ)
    → map.get pairs q ≡ Some h → q ≡ k
named_only pairs names made h p k n named is q e = one_pair q (p.pid, p.key) (sym (n q.0 q.1 h e).1 ∙ named) ∙ is

-- that pair has another
pub forgets_other : (pairs : PairMap) (h : ℕ) (k : ℤ × List ℕ) → map.get pairs k ≢ Some h
    → ((q : ℤ × List ℕ) → map.get pairs q ≡ Some h → q ≡ k) → pairs ≡ without_handle pairs h
forgets_other pairs h k other alone =
    forgets_none pairs h (λ q e. other (sym (ap (map.get pairs) (alone q e)) ∙ e))
