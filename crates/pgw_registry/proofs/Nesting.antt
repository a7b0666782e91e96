-- Pairs in a map of one pair a number, and in a map of maps.
use Rattle.std.proofs.Common.{◌≡◌, Result, Ok, Err, OnOk, OnErr, ℕ, ℤ, Bool, true, false, cond, not, List, [], ◌∷◌, ◌++◌, map, Option, Some, None, Ordering, Less, Equal, Greater, refl, sym, ap, ◌∙◌}
use Rattle.std.specs.Ordering.{int_cmp, eq_by_cmp, is_eq, ordering_then, match_ordering}
use Rattle.std.specs.Cmp.{IsTotalOrder, int_cmp_total, then_total, on_total, eq_by_cmp_equiv}
use Rattle.std.specs.Cmp.Lexicographic.{nat_list_cmp_total}
use Rattle.std.specs.List.{AllByRecursion}
use Rattle.std.specs.List.Sorted.{IsStrictlySortedBy}
use Rattle.std.specs.BTreeMap.{BTreeMap, insert_entry, is_at}
use Rattle.std.specs.Map.{lookup, remove_entry, keys_of}
use Rattle.std.specs.FinMap as map
use Rattle.std.specs.FinMap.Entries.{find, put, find-put}
use Rattle.std.proofs.lemmas.Map.Keys.{sorted_head, sorted_tail}
use Rattle.std.specs.Bool.{Decides}
use Rattle.pgw_registry.specs.Pairs.{bytes_cmp, pair_cmp}
use Rattle.pgw_registry.specs.declared.pairs.One.{One}
use Rattle.pgw_registry.specs.Nested.{Key, pairs_of, flat, at_key, in_number, at_pair, flat_firsts, in_one, at_first, is_other_key, first_number_of, both_flat, at_either}

pub pair_cmp_total : IsTotalOrder pair_cmp
pair_cmp_total =
    then_total (on_total (λ (p : ℤ × List ℕ). p.0) int_cmp_total)
    (on_total (λ (p : ℤ × List ℕ). p.1) nat_list_cmp_total)

pub bytes_alone : map.IsAntisymmetric bytes_cmp
bytes_alone = map.slice_cmp-IsAntisymmetric map.nat_cmp-IsAntisymmetric

pub pairs_alone : map.IsAntisymmetric pair_cmp
pairs_alone x y e = by (int_cmp x.0 y.0) refl e
  where
    by : (o : Ordering) → int_cmp x.0 y.0 ≡ o → ordering_then o (bytes_cmp x.1 y.1) ≡ Equal → x ≡ y
    by Less t e = absurd (cc)
    by Equal t e = λ i. (map.int_cmp-IsAntisymmetric x.0 y.0 t i, bytes_alone x.1 y.1 e i)
    by Greater t e = absurd (cc)

pair_is : (x y : ℤ × List ℕ) → eq_by_cmp pair_cmp x y ≡ true → x ≡ y
pair_is x y t = pairs_alone x y (by (pair_cmp x y) t)
  where
    by : (r : Ordering) → is_eq r ≡ true → r ≡ Equal
    by Less e = absurd (cc)
    by Equal e = refl
    by Greater e = absurd (cc)

first_of_none : (o : Option ℕ) → first_number_of o None ≡ o
unfolding first_number_of
first_of_none None = refl
first_of_none (Some x) = refl

found_in_two : (q : ℤ × List ℕ) (xs ys : List ((ℤ × List ℕ) × ℕ))
    → find pair_cmp q (xs ++ ys) ≡ first_number_of (find pair_cmp q xs) (find pair_cmp q ys)
unfolding first_number_of
found_in_two q [] ys = refl
found_in_two q (x ∷ xs) ys =
    elim (eq_by_cmp pair_cmp q x.0) as
    (λ b. cond b (Some x.1) (find pair_cmp q (xs ++ ys)) ≡ first_number_of
    (cond b (Some x.1) (find pair_cmp q xs)) (find pair_cmp q ys)) [
      | true ↦ refl
      | false ↦ found_in_two q xs ys
    ]

-- the pairs of a number have its keys
found_in_number : (o : Ordering) (pid n : ℤ) (key : List ℕ) → int_cmp pid n ≡ o → (ks : List (Key × ℕ))
    → find pair_cmp (pid, key) (pairs_of n ks) ≡ cond (is_eq o) (at_key ks key) None
unfolding at_key
found_in_number o pid n key e [] =
    elim o as (λ r. ◌≡◌ {A = Option ℕ} None (cond (is_eq r) None None))
    [ Less ↦ refl | Equal ↦ refl | Greater ↦ refl ]
found_in_number o pid n key e (k ∷ ks) =
    let c : Ordering = bytes_cmp key k.0.items in
    let rest : Option ℕ = find pair_cmp (pid, key) (pairs_of n ks) in
    ap (λ (r : Ordering). cond (is_eq (ordering_then r c)) (Some k.1) rest) e
    ∙ ap (λ (z : Option ℕ). cond (is_eq (ordering_then o c)) (Some k.1) z) (found_in_number o pid n key e ks)
    ∙ elim o as (λ r. cond (is_eq (ordering_then r c)) (Some k.1) (cond (is_eq r) (at_key ks key) None) ≡ cond
    (is_eq r) (cond (is_eq c) (Some k.1) (at_key ks key)) None) [
      | Less ↦ refl
      | Equal ↦ refl
      | Greater ↦ refl
    ]

-- a number stands once
none_later : {V : Type 0} (pid n : ℤ) (es : List (ℤ × V)) → int_cmp pid n ≡ Equal
    → AllByRecursion (λ y. int_cmp n y ≡ Less) (keys_of es) → lookup (is_at (int_cmp pid)) es ≡ None
none_later pid n [] e later = refl
none_later {V} pid n (x ∷ es) e later =
    ap (λ (o : Ordering). cond (is_eq o) (Some x.1) (lookup (is_at (int_cmp pid)) es))
    (int_cmp_total.congr pid n x.0 e
    ∙ later.0)
    ∙ none_later pid n es e later.1

one_number : (o : Ordering) (keys : BTreeMap Key ℕ) (later : Option (BTreeMap Key ℕ)) (key : List ℕ)
    → (o ≡ Equal → later ≡ None)
    → first_number_of (cond (is_eq o) (at_key keys.entries key) None) (in_number later key) ≡ in_number
    (cond (is_eq o) (Some keys) later) key
unfolding first_number_of in_number
one_number Less keys later key none = refl
one_number Equal keys later key none =
    ap (λ (o : Option (BTreeMap Key ℕ)). first_number_of (at_key keys.entries key) (in_number o key)) (none refl)
    ∙ first_of_none (at_key keys.entries key)
one_number Greater keys later key none = refl

-- what the flat list finds stands at the number and the key
pub at_flat : (es : List (ℤ × BTreeMap Key ℕ)) → IsStrictlySortedBy int_cmp (keys_of es)
    → (pid : ℤ) (key : List ℕ) → find pair_cmp (pid, key) (flat es) ≡ at_pair es pid key
unfolding flat at_pair in_number
at_flat [] sorted pid key = refl
at_flat (e ∷ es) sorted pid key =
    found_in_two (pid, key) (pairs_of e.0 e.1.entries) (flat es)
    ∙ ap (λ (o : Option ℕ). first_number_of o (find pair_cmp (pid, key) (flat es)))
    (found_in_number (int_cmp pid e.0) pid e.0 key refl e.1.entries)
    ∙ ap (λ (o : Option ℕ). first_number_of (cond (is_eq (int_cmp pid e.0)) (at_key e.1.entries key) None) o)
    (at_flat es (sorted_tail int_cmp e.0 (keys_of es) sorted) pid key)
    ∙ one_number (int_cmp pid e.0) e.1 (lookup (is_at (int_cmp pid)) es) key
    (λ t. none_later pid e.0 es t (sorted_head int_cmp e.0 (keys_of es) sorted))

-- ---- one key of a number

abbrev plain : List (Key × ℕ) → List (List ℕ × ℕ)
plain ks = map (λ k. (k.0.items, k.1)) ks

at_plain : (ks : List (Key × ℕ)) (key : List ℕ) → at_key ks key ≡ find bytes_cmp key (plain ks)
unfolding at_key
at_plain [] key = refl
at_plain (k ∷ ks) key = ap (cond (eq_by_cmp bytes_cmp key k.0.items) (Some k.1)) (at_plain ks key)

abbrev key_cmp : Key → Key → Ordering
key_cmp x y = bytes_cmp x.items y.items

plain_inserted : (ks : List (Key × ℕ)) (k : Key) (h : ℕ)
    → plain (insert_entry key_cmp ks k h) ≡ put bytes_cmp k.items h (plain ks)
plain_inserted [] k h = refl
plain_inserted (e ∷ ks) k h =
    rw (sym (plain_inserted ks k h))
    (elim (bytes_cmp k.items e.0.items) as
    (λ o. plain (match_ordering o ((k, h) ∷ e ∷ ks) ((e.0, h) ∷ ks) (e ∷ insert_entry key_cmp ks k h)) ≡
    map.Entries.by_order o ((k.items, h) ∷ plain (e ∷ ks)) ((e.0.items, h) ∷ plain ks)
    ((e.0.items, e.1) ∷ plain (insert_entry key_cmp ks k h))) [
      | Less ↦ refl
      | Equal ↦ refl
      | Greater ↦ refl
    ])

-- a key is written
pub key_written : (ks : List (Key × ℕ)) (k : Key) (h : ℕ) (q : List ℕ)
    → at_key (insert_entry key_cmp ks k h) q ≡ cond (eq_by_cmp bytes_cmp k.items q) (Some h) (at_key ks q)
key_written ks k h q =
    at_plain (insert_entry key_cmp ks k h) q
    ∙ ap (find bytes_cmp q) (plain_inserted ks k h)
    ∙ find-put bytes_cmp nat_list_cmp_total q k.items h (plain ks)
    ∙ ap (λ (b : Bool). cond b (Some h) (find bytes_cmp q (plain ks)))
    ((eq_by_cmp_equiv nat_list_cmp_total).symm q k.items)
    ∙ ap (cond (eq_by_cmp bytes_cmp k.items q) (Some h)) (sym (at_plain ks q))

-- another key stays
key_stays : (ks : List (Key × ℕ)) (key q : List ℕ) → eq_by_cmp bytes_cmp key q ≡ false
    → at_key (remove_entry (is_at (λ k. bytes_cmp key k.items)) ks) q ≡ at_key ks q
unfolding at_key
key_stays [] key q apart = refl
key_stays (e ∷ ks) key q apart = by (bytes_cmp key e.0.items) refl (key_stays ks key q apart)
  where
    by : (r : Ordering) → bytes_cmp key e.0.items ≡ r
        → at_key (remove_entry (is_at (λ k. bytes_cmp key k.items)) ks) q ≡ at_key ks q
        → at_key (cond (is_eq r) ks (e ∷ remove_entry (is_at (λ k. bytes_cmp key k.items)) ks)) q ≡ at_key
        (e ∷ ks) q
    by Less t rest = ap (cond (eq_by_cmp bytes_cmp q e.0.items) (Some e.1)) rest
    by Equal t rest = ap (λ (b : Bool). cond b (Some e.1) (at_key ks q))
        (sym apart ∙ ap is_eq (nat_list_cmp_total.congr key e.0.items q t)
        ∙ (eq_by_cmp_equiv nat_list_cmp_total).symm e.0.items q)
    by Greater t rest = ap (cond (eq_by_cmp bytes_cmp q e.0.items) (Some e.1)) rest

tied_is : (x y : List ℕ) → eq_by_cmp bytes_cmp x y ≡ true → x ≡ y
tied_is x y t = bytes_alone x y (by (bytes_cmp x y) t)
  where
    by : (r : Ordering) → is_eq r ≡ true → r ≡ Equal
    by Less e = absurd (cc)
    by Equal e = refl
    by Greater e = absurd (cc)

-- a key is taken
pub key_taken : (old new : List (Key × ℕ)) (key : List ℕ)
    → new ≡ remove_entry (is_at (λ k. bytes_cmp key k.items)) old → at_key new key ≡ None → (q : List ℕ)
    → at_key new q ≡ cond (eq_by_cmp bytes_cmp key q) None (at_key old q)
key_taken old new key is none q = by (eq_by_cmp bytes_cmp key q) refl
  where
    by : (b : Bool) → eq_by_cmp bytes_cmp key q ≡ b → at_key new q ≡ cond b None (at_key old q)
    by true t = ap (at_key new) (sym (tied_is key q t)) ∙ none
    by false t = ap (λ (ks : List (Key × ℕ)). at_key ks q) is ∙ key_stays old key q t

-- ---- one number

abbrev Held : Type 0
Held = BTreeMap Key ℕ

abbrev at_number : List (ℤ × Held) → ℤ → Option Held
at_number es pid = lookup (is_at (int_cmp pid)) es

-- the keys of a number are o, which are the old ones but for one
pub changed : (old new : List (ℤ × Held)) (pid : ℤ) (key : List ℕ) (w : Option ℕ) (o : Option Held)
    → ((p : ℤ) → at_number new p ≡ cond (is_at (int_cmp pid) p) o (at_number old p))
    → ((q : List ℕ) → in_number o q ≡ cond (eq_by_cmp bytes_cmp key q) w (in_number (at_number old pid) q))
    → (p : ℤ) (q : List ℕ) → at_pair new p q ≡ cond (eq_by_cmp pair_cmp (pid, key) (p, q)) w (at_pair old p q)
unfolding at_pair
changed old new pid key w o outer inner p q =
    ap (λ (z : Option Held). in_number z q) (outer p) ∙ by (int_cmp pid p) refl
  where
    by : (r : Ordering) → int_cmp pid p ≡ r
        → in_number (cond (is_eq r) o (at_number old p)) q ≡ cond (is_eq (ordering_then r (bytes_cmp key q))) w
        (in_number (at_number old p) q)
    by Less t = refl
    by Equal t =
        inner q ∙ ap (λ (n : ℤ). cond (eq_by_cmp bytes_cmp key q) w (in_number (at_number old n) q))
        (map.int_cmp-IsAntisymmetric pid p t)
    by Greater t = refl

-- a number without keys has none to take
pub none_to_take : (old : List (ℤ × Held)) (pid : ℤ) (key : List ℕ) → at_number old pid ≡ None
    → (p : ℤ) (q : List ℕ) → at_pair old p q ≡ cond (eq_by_cmp pair_cmp (pid, key) (p, q)) None (at_pair old p q)
unfolding at_pair in_number
none_to_take old pid key none p q = by (int_cmp pid p) refl
  where
    same : (b : Bool) (x : Option ℕ) → x ≡ None → x ≡ cond b None x
    same true x e = e
    same false x e = refl

    by : (r : Ordering) → int_cmp pid p ≡ r
        → in_number (at_number old p) q ≡ cond (is_eq (ordering_then r (bytes_cmp key q))) None
        (in_number (at_number old p) q)
    by Less t = refl
    by Equal t =
        same (eq_by_cmp bytes_cmp key q) (in_number (at_number old p) q)
        (ap (λ (z : Option Held). in_number z q)
        (ap (at_number old) (sym (map.int_cmp-IsAntisymmetric pid p t)) ∙ none))
    by Greater t = refl

-- a number's keys are not changed
pub unchanged : (old new : List (ℤ × Held)) (pid : ℤ) (keys now : Held) → at_number old pid ≡ Some keys
    → now.entries ≡ keys.entries
    → ((p : ℤ) → at_number new p ≡ cond (is_at (int_cmp pid) p) (Some now) (at_number old p))
    → (p : ℤ) (q : List ℕ) → at_pair new p q ≡ at_pair old p q
unfolding at_pair in_number
unchanged old new pid keys now there same outer p q =
    ap (λ (z : Option Held). in_number z q) (outer p) ∙ by (int_cmp pid p) refl
  where
    by : (r : Ordering) → int_cmp pid p ≡ r
        → in_number (cond (is_eq r) (Some now) (at_number old p)) q ≡ in_number (at_number old p) q
    by Less t = refl
    by Equal t =
        ap (λ (ks : List (Key × ℕ)). at_key ks q) same
        ∙ ap (λ (z : Option Held). in_number z q) (sym there
        ∙ ap (at_number old) (map.int_cmp-IsAntisymmetric pid p t))
    by Greater t = refl

pub in_some : (keys : Held) (q : List ℕ) → in_number (Some keys) q ≡ at_key keys.entries q
unfolding in_number
in_some keys q = refl

pub in_none : (q : List ℕ) → in_number None q ≡ None
unfolding in_number
in_none q = refl

pub at_nothing : (q : List ℕ) → at_key [] q ≡ None
unfolding at_key
at_nothing q = refl

pub forgotten : (b : Bool) (w x : Option Held) → cond b None (cond b w x) ≡ cond b None x
forgotten true w x = refl
forgotten false w x = refl

-- ---- the first pair of a number

abbrev at_one : List (ℤ × One) → ℤ → Option One
at_one es pid = lookup (is_at (int_cmp pid)) es

one_first : (o : Ordering) (one : One) (later : Option One) (key : List ℕ) (rest : Option ℕ)
    → rest ≡ in_one later key → (o ≡ Equal → later ≡ None)
    → cond (is_eq (ordering_then o (bytes_cmp key one.key.items))) (Some one.handle) rest ≡ in_one
    (cond (is_eq o) (Some one) later) key
unfolding in_one
one_first Less one later key rest same none = same
one_first Equal one later key rest same none =
    ap (λ (z : Option ℕ). cond (eq_by_cmp bytes_cmp key one.key.items) (Some one.handle) z) (same
    ∙ ap (λ (o : Option One). in_one o key) (none refl))
one_first Greater one later key rest same none = same

-- what the flat list of first pairs finds stands first
at_flat_firsts : (es : List (ℤ × One)) → IsStrictlySortedBy int_cmp (keys_of es) → (pid : ℤ) (key : List ℕ)
    → find pair_cmp (pid, key) (flat_firsts es) ≡ at_first es pid key
unfolding flat_firsts at_first in_one
at_flat_firsts [] sorted pid key = refl
at_flat_firsts (e ∷ es) sorted pid key =
    one_first (int_cmp pid e.0) e.1 (at_one es pid) key (find pair_cmp (pid, key) (flat_firsts es))
    (at_flat_firsts es (sorted_tail int_cmp e.0 (keys_of es) sorted) pid key)
    (λ t. none_later pid e.0 es t (sorted_head int_cmp e.0 (keys_of es) sorted))

-- what both lists find, one behind the other
pub at_both : (fs : List (ℤ × One)) (es : List (ℤ × Held)) → IsStrictlySortedBy int_cmp (keys_of fs)
    → IsStrictlySortedBy int_cmp (keys_of es) → (pid : ℤ) (key : List ℕ)
    → find pair_cmp (pid, key) (both_flat fs es) ≡ at_either fs es pid key
unfolding both_flat at_either
at_both fs es firsts sorted pid key =
    found_in_two (pid, key) (flat_firsts fs) (flat es)
    ∙ ap (λ (o : Option ℕ). first_number_of o (find pair_cmp (pid, key) (flat es)))
    (at_flat_firsts fs firsts pid key)
    ∙ ap (first_number_of (at_first fs pid key)) (at_flat es sorted pid key)

tied : (x : List ℕ) → eq_by_cmp bytes_cmp x x ≡ true
tied x = (eq_by_cmp_equiv nat_list_cmp_total).refl x

turned : (k q : List ℕ) → eq_by_cmp bytes_cmp k q ≡ eq_by_cmp bytes_cmp q k
turned k q = (eq_by_cmp_equiv nat_list_cmp_total).symm k q

not_is : (b : Bool) → not b ≡ false → b ≡ true
not_is true e = refl
not_is false e = absurd (cc)

is_not : (b : Bool) → not b ≡ true → b ≡ false
is_not true e = absurd (cc)
is_not false e = refl

-- what `==` of two keys says
pub key_tells : (b : Bool) (xs key : List ℕ) → Decides b (xs ≡ key) → b ≡ eq_by_cmp bytes_cmp key xs
key_tells true xs key says = sym (ap (λ k. eq_by_cmp bytes_cmp k xs) (sym (says.0 refl)) ∙ tied xs)
key_tells false xs key says = by (eq_by_cmp bytes_cmp key xs) refl
  where
    by : (b : Bool) → eq_by_cmp bytes_cmp key xs ≡ b → false ≡ b
    by true t = says.1 (sym (tied_is key xs t))
    by false t = refl

pub nothing_stands : (key : List ℕ) → in_one None key ≡ None
unfolding in_one
nothing_stands key = refl

pub none_other : (key : List ℕ) → is_other_key None key ≡ false
unfolding is_other_key
none_other key = refl

-- where no other key stands, every key but this one has nothing
alone : (o : Option One) (key q : List ℕ) → is_other_key o key ≡ false → eq_by_cmp bytes_cmp q key ≡ false
    → in_one o q ≡ None
unfolding is_other_key in_one
alone None key q own apart = refl
alone (Some x) key q own apart =
    ap (λ (k : List ℕ). cond (eq_by_cmp bytes_cmp q k) (Some x.handle) None)
    (sym (tied_is key x.key.items (not_is (eq_by_cmp bytes_cmp key x.key.items) own)))
    ∙ ap (λ (b : Bool). cond b (Some x.handle) None) apart

-- where another key stands, this one has nothing
hidden : (o : Option One) (key : List ℕ) → is_other_key o key ≡ true → in_one o key ≡ None
unfolding is_other_key in_one
hidden None key other = absurd (cc)
hidden (Some x) key other =
    ap (λ (b : Bool). cond b (Some x.handle) None) (is_not (eq_by_cmp bytes_cmp key x.key.items) other)

-- a pair is put first
pub first_put : (old new : List (ℤ × One)) (es : List (ℤ × Held)) (pid : ℤ) (one : One)
    → is_other_key (at_one old pid) one.key.items ≡ false
    → ((p : ℤ) → at_one new p ≡ cond (is_at (int_cmp pid) p) (Some one) (at_one old p))
    → (p : ℤ) (q : List ℕ)
    → at_either new es p q ≡ cond (eq_by_cmp pair_cmp (pid, one.key.items) (p, q)) (Some one.handle)
    (at_either old es p q)
unfolding at_either at_first in_one first_number_of
first_put old new es pid one own outer p q =
    ap (λ (z : Option One). first_number_of (in_one z q) (at_pair es p q)) (outer p) ∙ by (int_cmp pid p) refl
  where
    key : (b : Bool) → eq_by_cmp bytes_cmp q one.key.items ≡ b → at_one old p ≡ at_one old pid
        → first_number_of (cond b (Some one.handle) None) (at_pair es p q) ≡ cond b (Some one.handle)
        (first_number_of (in_one (at_one old p) q) (at_pair es p q))
    key true t same = refl
    key false t same =
        ap (λ (z : Option ℕ). first_number_of z (at_pair es p q)) (sym (ap (λ (o : Option One). in_one o q) same
        ∙ alone (at_one old pid) one.key.items q own t))

    by : (r : Ordering) → int_cmp pid p ≡ r
        → first_number_of (in_one (cond (is_eq r) (Some one) (at_one old p)) q) (at_pair es p q) ≡ cond
        (is_eq (ordering_then r (bytes_cmp one.key.items q))) (Some one.handle)
        (first_number_of (in_one (at_one old p) q) (at_pair es p q))
    by Less t = refl
    by Equal t =
        key (eq_by_cmp bytes_cmp q one.key.items) refl
        (ap (at_one old) (sym (map.int_cmp-IsAntisymmetric pid p t)))
        ∙ ap (λ (b : Bool). cond b (Some one.handle) (first_number_of (in_one (at_one old p) q) (at_pair es p q)))
        (turned q one.key.items)
    by Greater t = refl

-- a pair is written among the other keys
pub other_put : (fs : List (ℤ × One)) (old new : List (ℤ × Held)) (pid : ℤ) (key : List ℕ) (h : ℕ)
    → is_other_key (at_one fs pid) key ≡ true
    → ((p : ℤ) (q : List ℕ) → at_pair new p q ≡ cond (eq_by_cmp pair_cmp (pid, key) (p, q)) (Some h)
    (at_pair old p q))
    → (p : ℤ) (q : List ℕ)
    → at_either fs new p q ≡ cond (eq_by_cmp pair_cmp (pid, key) (p, q)) (Some h) (at_either fs old p q)
unfolding at_either at_first first_number_of
other_put fs old new pid key h other written p q =
    ap (first_number_of (at_first fs p q)) (written p q) ∙ by (eq_by_cmp pair_cmp (pid, key) (p, q)) refl
  where
    by : (b : Bool) → eq_by_cmp pair_cmp (pid, key) (p, q) ≡ b
        → first_number_of (at_first fs p q) (cond b (Some h) (at_pair old p q)) ≡ cond b (Some h)
        (first_number_of (at_first fs p q) (at_pair old p q))
    by true t = let same = pair_is (pid, key) (p, q) t in
        ap (λ (o : Option ℕ). first_number_of o (Some h)) (ap (λ (z : ℤ × List ℕ). at_first fs z.0 z.1) (sym same)
        ∙ hidden (at_one fs pid) key other)
    by false t = refl

-- the other keys stay
pub others_kept : (fs : List (ℤ × One)) (old new : List (ℤ × Held))
    → ((p : ℤ) (q : List ℕ) → at_pair new p q ≡ at_pair old p q) → (p : ℤ) (q : List ℕ)
    → at_either fs new p q ≡ at_either fs old p q
unfolding at_either
others_kept fs old new same p q = ap (first_number_of (at_first fs p q)) (same p q)

-- a pair is taken, wherever it stands
pub either_taken : (fs gs : List (ℤ × One)) (es ds : List (ℤ × Held)) (pid : ℤ) (key : List ℕ)
    → ((p : ℤ) (q : List ℕ) → at_first gs p q ≡ cond (eq_by_cmp pair_cmp (pid, key) (p, q)) None
    (at_first fs p q))
    → ((p : ℤ) (q : List ℕ) → at_pair ds p q ≡ cond (eq_by_cmp pair_cmp (pid, key) (p, q)) None (at_pair es p q))
    → (p : ℤ) (q : List ℕ)
    → at_either gs ds p q ≡ cond (eq_by_cmp pair_cmp (pid, key) (p, q)) None (at_either fs es p q)
unfolding at_either first_number_of
either_taken fs gs es ds pid key one other p q =
    ap (λ (o : Option ℕ). first_number_of o (at_pair ds p q)) (one p q)
    ∙ ap (first_number_of (cond (eq_by_cmp pair_cmp (pid, key) (p, q)) None (at_first fs p q))) (other p q)
    ∙ by (eq_by_cmp pair_cmp (pid, key) (p, q))
  where
    by : (b : Bool)
        → first_number_of (cond b None (at_first fs p q)) (cond b None (at_pair es p q)) ≡ cond b None
        (first_number_of (at_first fs p q) (at_pair es p q))
    by true = refl
    by false = refl

-- where this key has something, no other stands
owned : (o : Option One) (key : List ℕ) (h : ℕ) → in_one o key ≡ Some h → is_other_key o key ≡ false
unfolding in_one is_other_key
owned None key h e = absurd (cc)
owned (Some x) key h e = by (eq_by_cmp bytes_cmp key x.key.items) e
  where
    by : (b : Bool) → cond b (Some x.handle) None ≡ Some h → not b ≡ false
    by true e = refl
    by false e = absurd (cc)

-- a number whose pair stands first has no first pair any more
pub first_taken : (old new : List (ℤ × One)) (pid : ℤ) (key : List ℕ) (h : ℕ) → at_first old pid key ≡ Some h
    → ((p : ℤ) → at_one new p ≡ cond (is_at (int_cmp pid) p) None (at_one old p))
    → (p : ℤ) (q : List ℕ)
    → at_first new p q ≡ cond (eq_by_cmp pair_cmp (pid, key) (p, q)) None (at_first old p q)
unfolding at_first in_one
first_taken old new pid key h there outer p q =
    ap (λ (z : Option One). in_one z q) (outer p) ∙ by (int_cmp pid p) refl
  where
    rest : (b : Bool) → eq_by_cmp bytes_cmp key q ≡ b → in_one (at_one old p) q ≡ in_one (at_one old pid) q
        → None ≡ cond b None (in_one (at_one old p) q)
    rest true t same = refl
    rest false t same =
        sym (same ∙ alone (at_one old pid) key q (owned (at_one old pid) key h there) (turned q key ∙ t))

    by : (r : Ordering) → int_cmp pid p ≡ r
        → in_one (cond (is_eq r) None (at_one old p)) q ≡ cond (is_eq (ordering_then r (bytes_cmp key q))) None
        (in_one (at_one old p) q)
    by Less t = refl
    by Equal t =
        rest (eq_by_cmp bytes_cmp key q) refl
        (ap (λ (n : ℤ). in_one (at_one old n) q) (sym (map.int_cmp-IsAntisymmetric pid p t)))
    by Greater t = refl

-- a pair that does not stand first is not taken there
pub none_first : (old : List (ℤ × One)) (pid : ℤ) (key : List ℕ) → at_first old pid key ≡ None
    → (p : ℤ) (q : List ℕ)
    → at_first old p q ≡ cond (eq_by_cmp pair_cmp (pid, key) (p, q)) None (at_first old p q)
none_first old pid key none p q = by (eq_by_cmp pair_cmp (pid, key) (p, q)) refl
  where
    by : (b : Bool) → eq_by_cmp pair_cmp (pid, key) (p, q) ≡ b → at_first old p q ≡ cond b None (at_first old p q)
    by true t = ap (λ (z : ℤ × List ℕ). at_first old z.0 z.1) (sym (pair_is (pid, key) (p, q) t)) ∙ none
    by false t = refl

-- ---- what a call ensures

pub on_ok_from : {A E : Type 0} {P Q : Type 0} (r : Result A E) → (P → Q) → OnOk r P → OnOk r Q
on_ok_from (Ok x) f p = f p
on_ok_from (Err e) f p = tt

pub on_err_from : {A E : Type 0} {P Q : Type 0} (r : Result A E) → (P → Q) → OnErr r P → OnErr r Q
on_err_from (Ok x) f p = tt
on_err_from (Err e) f p = f p
