-- Parameters that are set once more.
use Rattle.std.proofs.Common.{◌≡◌, ℕ, Bool, true, false, cond, List, [], ◌∷◌, Some, refl, sym, ◌∙◌, ap, T, ◌&&◌, Ordering, Less, Equal, Greater, nat_cmp}
use Rattle.std.specs.Ordering.{is_eq, is_lt, ordering_reverse}
use Rattle.std.specs.FinMap as map
use Rattle.std.specs.FinMap.Entries.{find, is_sorted, below_all}
use Rattle.std.specs.Cmp.{tied_itself}
use Rattle.std.specs.Cmp.Lexicographic.{slice_cmp, nat_list_cmp_total}
use Rattle.pgw_wire.specs.Pairs.{Held}
use Rattle.pgw_client_calls.specs.Desk.{insert_all}

abbrev cmp : List ℕ → List ℕ → Ordering
cmp = slice_cmp nat_cmp

abbrev Pairs : Type 0
Pairs = List (List ℕ × List ℕ)

same_keys : (x y : List ℕ) → cmp x y ≡ Equal → x ≡ y
same_keys = map.slice_cmp-IsAntisymmetric map.nat_cmp-IsAntisymmetric

-- a value that is there
insert_same : (m : Held) (k v : List ℕ) → map.get m k ≡ Some v → map.insert m k v ≡ m
insert_same m k v found =
    map.same_map nat_list_cmp_total same_keys (map.insert m k v) m (λ q. map.get-insert nat_list_cmp_total m k v q
    ∙ at q (cmp q k) refl)
  where
    at : (q : List ℕ) (r : Ordering) → cmp q k ≡ r → cond (is_eq r) (Some v) (map.get m q) ≡ map.get m q
    at q Less is = refl
    at q Equal is = sym (ap (map.get m) (same_keys q k is) ∙ found)
    at q Greater is = refl

abbrev AllGot : Held → Pairs → Type 0
AllGot m [] = Unit {0}
AllGot m (e ∷ es) = (map.get m e.0 ≡ Some e.1) × AllGot m es

insert_got : (m : Held) (es : Pairs) → AllGot m es → insert_all m es ≡ m
insert_got m [] got = refl
insert_got m (e ∷ es) got =
    ap (λ (x : Held). insert_all x es) (insert_same m e.0 e.1 got.0) ∙ insert_got m es got.1

-- each entry of a list in order is found in it
abbrev AllFound : Pairs → Pairs → Type 0
AllFound fs [] = Unit {0}
AllFound fs (e ∷ es) = (find cmp e.0 fs ≡ Some e.1) × AllFound fs es

first : (a b : Bool) → T (a && b) → T a
first true b p = tt
first false b p = p

second : (a b : Bool) → T (a && b) → T b
second true b p = p
second false b p = absurd p

greater : (r : Ordering) → T (is_lt r) → ordering_reverse r ≡ Greater
greater Less p = refl
greater Equal p = absurd p
greater Greater p = absurd p

found_behind : (e : List ℕ × List ℕ) (fs es : Pairs) → T (below_all cmp e.0 es) → AllFound fs es
    → AllFound (e ∷ fs) es
found_behind e fs [] below found = tt
found_behind e fs (f ∷ es) below found =
    let other : cmp f.0 e.0 ≡ Greater =
    nat_list_cmp_total.antisymm f.0 e.0
    ∙ greater (cmp e.0 f.0) (first (is_lt (cmp e.0 f.0)) (below_all cmp e.0 es) below) in (
      ap (λ r. cond (is_eq r) (Some e.1) (find cmp f.0 fs)) other
          ∙ found.0,
      found_behind e fs es (second (is_lt (cmp e.0 f.0)) (below_all cmp e.0 es) below) found.1,
    )

all_found : (es : Pairs) → T (is_sorted cmp es) → AllFound es es
all_found [] sorted = tt
all_found (e ∷ es) sorted = (
  ap (λ r. cond (is_eq r) (Some e.1) (find cmp e.0 es)) (tied_itself nat_list_cmp_total e.0),
  found_behind e es es (first (below_all cmp e.0 es) (is_sorted cmp es) sorted)
      (all_found es (second (below_all cmp e.0 es) (is_sorted cmp es) sorted)),
)

all_got : (m : Held) (es : Pairs) → AllFound (map.entries m) es → AllGot m es
all_got m [] found = tt
all_got m (e ∷ es) found = (map.get-entries m e.0 ∙ found.0, all_got m es found.1)

-- to set a map's own entries changes nothing
pub inserted_again : (m : Held) → insert_all m (map.entries m) ≡ m
inserted_again m =
    insert_got m (map.entries m) (all_got m (map.entries m) (all_found (map.entries m) (map.entries_sorted m)))
