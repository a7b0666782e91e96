-- Histories as lists, and the number of turns.
use Rattle.std.proofs.Common.{◌≡◌, ◌≢◌, ◌⊎◌, inl, inr, ⊎_elim, ℕ, zero, suc, ◌+◌, ◌<◌, ◌≤◌, Bool, true, false, true≢false, cond, eqb, leb, ◌||◌, List, [], ◌∷◌, ◌++◌, length, set, Some, slice_get, refl, sym, ap, ◌∙◌, subst, arith, append_assoc, append-nil, length-append}
use Rattle.std.proofs.lemmas.Bool.Decides.{nat_tests}
use mathlib.Core.Option.{some, some-injective, some-ne-none}
use lib.ListN.{get_elem?}
use Rattle.pgw_registry.specs.declared.call.Entry.{Entry}
use Rattle.pgw_registry.specs.declared.sight.Sight.{Sight}
use Rattle.pgw_registry.specs.Sequential.{Book, nothing, next_book, reply_of, state_after, AreBookReplies, IsLegal}
use Rattle.pgw_registry.specs.History.{Log, BeginsLog, Apart, held, places_from, places, turns, longer}
use Rattle.pgw_registry.specs.Numbers.{weight}

pub state_after-append : (s : Book) (xs ys : Log) → state_after s (xs ++ ys) ≡ state_after (state_after s xs) ys
state_after-append s [] ys = refl
state_after-append s (e ∷ xs) ys = state_after-append (next_book s e.call) xs ys

replies_snoc : (s : Book) (xs : Log) (e : Entry) → AreBookReplies s xs
    → e.reply ≡ reply_of (state_after s xs) e.call → AreBookReplies s (xs ++ e ∷ [])
replies_snoc s [] e h r = (r, tt)
replies_snoc s (x ∷ xs) e h r = (h.0, replies_snoc (next_book s x.call) xs e h.1 r)

pub legal_snoc : (xs : Log) (e : Entry) → IsLegal xs → length xs < 18446744073709551615
    → e.reply ≡ reply_of (state_after nothing xs) e.call → IsLegal (xs ++ e ∷ [])
legal_snoc xs e h room r = let l = length-append xs (e ∷ []) in (omega arith, replies_snoc nothing xs e h.1 r)

pub begins_same : (xs : Log) → BeginsLog xs xs
begins_same xs = ([], sym (append-nil xs))

pub begins_none : (xs : Log) → BeginsLog [] xs
begins_none xs = (xs, refl)

pub begins_later : (xs log more : Log) → BeginsLog xs log → BeginsLog xs (log ++ more)
begins_later xs log more b = (b.0 ++ more, ap (λ (l : Log). l ++ more) b.1 ∙ append_assoc xs b.0 more)

pub begins_longer : (xs ys log : Log) → BeginsLog xs log → BeginsLog ys log → BeginsLog (longer xs ys) log
begins_longer xs ys log a b =
    elim (leb (length ys) (length xs)) as (λ t. BeginsLog (cond t xs ys) log) [ true ↦ a | false ↦ b ]

pub longer_first : (xs ys : Log) → length xs ≤ length (longer xs ys)
longer_first xs ys = go (leb (length ys) (length xs)) refl
  where
    go : (t : Bool) → leb (length ys) (length xs) ≡ t → length xs ≤ length (cond t xs ys)
    go true e = omega arith
    go false e = let h : length xs < length ys = grind (arith, nat_tests) in omega arith

pub longer_second : (xs ys : Log) → length ys ≤ length (longer xs ys)
longer_second xs ys = go (leb (length ys) (length xs)) refl
  where
    go : (t : Bool) → leb (length ys) (length xs) ≡ t → length ys ≤ length (cond t xs ys)
    go true e = let h : length ys ≤ length xs = grind (arith, nat_tests) in omega arith
    go false e = omega arith

pub get_front : (xs ys : Log) (k : ℕ) (e : Entry) → slice_get xs k ≡ Some e → slice_get (xs ++ ys) k ≡ Some e
get_front [] ys k e h = absurd (cc)
get_front (x ∷ xs) ys zero e h = h
get_front (x ∷ xs) ys (suc k) e h = get_front xs ys k e h

pub get_behind : (xs ys : Log) (k : ℕ) (e : Entry) → slice_get ys k ≡ Some e
    → slice_get (xs ++ ys) (length xs + k) ≡ Some e
get_behind [] ys k e h = subst (λ (n : ℕ). slice_get ys n ≡ Some e) (omega arith) h
get_behind (x ∷ xs) ys k e h = let n : suc (length xs + k) ≡ suc (length xs) + k = omega arith in
    subst (λ (n : ℕ). slice_get (x ∷ xs ++ ys) n ≡ Some e) n (get_behind xs ys k e h)

pub get_within : (xs : Log) (k : ℕ) (e : Entry) → slice_get xs k ≡ Some e → k < length xs
get_within [] k e h = absurd (cc)
get_within (x ∷ xs) zero e h = omega arith
get_within (x ∷ xs) (suc k) e h = let r = get_within xs k e h in omega arith

some_is : (x e : Entry) → Some x ≡ Some e → x ≡ e
some_is x e h = cc

pub get_snoc : (xs : Log) (x : Entry) (k : ℕ) (e : Entry) → slice_get (xs ++ x ∷ []) k ≡ Some e
    → (slice_get xs k ≡ Some e) ⊎ ((k ≡ length xs) × (x ≡ e))
get_snoc [] x zero e h = inr (refl, some_is x e h)
get_snoc [] x (suc k) e h = absurd (cc)
get_snoc (y ∷ xs) x zero e h = inl h
get_snoc (y ∷ xs) x (suc k) e h =
    ⊎_elim (λ (t : slice_get xs k ≡ Some e). inl t) (λ (t : (k ≡ length xs) × (x ≡ e)). inr (ap suc t.0, t.1))
    (get_snoc xs x k e h)

held_append_by : (b : Bool) (n : ℕ) (xs ys : List ℕ)
    → ((held n (xs ++ ys) ≡ true) → (held n xs ≡ true) ⊎ (held n ys ≡ true)) → (b || held n (xs ++ ys)) ≡ true
    → ((b || held n xs) ≡ true) ⊎ (held n ys ≡ true)
held_append_by true n xs ys r _ = inl refl
held_append_by false n xs ys r h = r h

pub held_append : (n : ℕ) (xs ys : List ℕ) → held n (xs ++ ys) ≡ true → (held n xs ≡ true) ⊎ (held n ys ≡ true)
held_append n [] ys h = inr h
held_append n (x ∷ xs) ys h = held_append_by (eqb x n) n xs ys (held_append n xs ys) h

held_front_by : (b : Bool) (n : ℕ) (xs ys : List ℕ) → (held n xs ≡ true → held n (xs ++ ys) ≡ true)
    → (b || held n xs) ≡ true → (b || held n (xs ++ ys)) ≡ true
held_front_by true n xs ys r _ = refl
held_front_by false n xs ys r h = r h

pub held_front : (n : ℕ) (xs ys : List ℕ) → held n xs ≡ true → held n (xs ++ ys) ≡ true
held_front n [] ys h = absurd (true≢false (sym h))
held_front n (x ∷ xs) ys h = held_front_by (eqb x n) n xs ys (held_front n xs ys) h

held_back_by : (b : Bool) (n : ℕ) (xs ys : List ℕ) → held n (xs ++ ys) ≡ true → (b || held n (xs ++ ys)) ≡ true
held_back_by true n xs ys r = refl
held_back_by false n xs ys r = r

pub held_back : (n : ℕ) (xs ys : List ℕ) → held n ys ≡ true → held n (xs ++ ys) ≡ true
held_back n [] ys h = h
held_back n (x ∷ xs) ys h = held_back_by (eqb x n) n xs ys (held_back n xs ys h)

pub held_one : (n x : ℕ) → held n (x ∷ []) ≡ true → x ≡ n
held_one n x h = go (eqb x n) refl h
  where
    go : (b : Bool) → eqb x n ≡ b → (b || false) ≡ true → x ≡ n
    go true e _ = grind (arith, nat_tests)
    go false e h = absurd (true≢false (sym h))

pub held_self : (n : ℕ) → held n (n ∷ []) ≡ true
held_self n = grind (arith, nat_tests)

places_join : (b : Bool) (k : ℕ) (xs ys all : List ℕ) → all ≡ xs ++ ys
    → cond b (k ∷ all) all ≡ cond b (k ∷ xs) xs ++ ys
places_join true k xs ys all e = ap (λ (l : List ℕ). k ∷ l) e
places_join false k xs ys all e = e

pub places-append : (k : ℕ) (ns : List ℕ) (xs ys : Log)
    → places_from k ns (xs ++ ys) ≡ places_from k ns xs ++ places_from (k + length xs) ns ys
places-append k ns [] ys = ap (λ (n : ℕ). places_from n ns ys) (omega arith)
places-append k ns (e ∷ xs) ys = let n : (k + 1) + length xs ≡ k + suc (length xs) = omega arith in
    places_join (held e.by ns) k (places_from (k + 1) ns xs) (places_from (k + suc (length xs)) ns ys)
    (places_from (k + 1) ns (xs ++ ys))
    (places-append (k + 1) ns xs ys ∙ ap (λ (n : ℕ). places_from (k + 1) ns xs ++ places_from n ns ys) n)

not_first : (b : Bool) (k : ℕ) (l : List ℕ) → (b ≡ true → ⊥) → l ≡ [] → cond b (k ∷ l) l ≡ []
not_first true k l h e = absurd (h refl)
not_first false k l h e = e

pub places_none : (k : ℕ) (ns : List ℕ) (xs : Log)
    → ((i : ℕ) (e : Entry) → slice_get xs i ≡ Some e → held e.by ns ≡ true → ⊥) → places_from k ns xs ≡ []
places_none k ns [] h = refl
places_none k ns (e ∷ xs) h =
    not_first (held e.by ns) k (places_from (k + 1) ns xs) (λ is. h 0 e refl is)
    (places_none (k + 1) ns xs (λ i x at. h (suc i) x at))

all_first : (b : Bool) (k n : ℕ) (l : List ℕ) → b ≡ true → length l ≡ n → length (cond b (k ∷ l) l) ≡ suc n
all_first true k n l is e = ap suc e
all_first false k n l is e = absurd (true≢false (sym is))

-- where each call is of these, there are as many places as calls
pub places_all : (k : ℕ) (ns : List ℕ) (xs : Log)
    → ((i : ℕ) (e : Entry) → slice_get xs i ≡ Some e → held e.by ns ≡ true)
    → length (places_from k ns xs) ≡ length xs
places_all k ns [] h = refl
places_all k ns (e ∷ xs) h =
    all_first (held e.by ns) k (length xs) (places_from (k + 1) ns xs) (h 0 e refl)
    (places_all (k + 1) ns xs (λ i x at. h (suc i) x at))

counted_in : (b : Bool) (k : ℕ) (l : List ℕ) → length (cond b (k ∷ l) l) ≡ weight b + length l
counted_in true k l = omega arith
counted_in false k l = omega arith

held_in_two : (n : ℕ) (xs ys : List ℕ) → Apart xs ys
    → weight (held n (xs ++ ys)) ≡ weight (held n xs) + weight (held n ys)
held_in_two n xs ys apart = by (held n xs) (held n ys) (held n (xs ++ ys)) refl refl refl
  where
    by : (a b c : Bool) → held n xs ≡ a → held n ys ≡ b → held n (xs ++ ys) ≡ c → weight c ≡ weight a + weight b
    by true true c e f g = absurd (apart n e f)
    by true false c e f g = ap weight (sym g ∙ held_front n xs ys e)
    by false true c e f g = ap weight (sym g ∙ held_back n xs ys f)
    by false false true e f g =
        absurd (⊎_elim (λ (t : held n xs ≡ true). true≢false (sym t
        ∙ e)) (λ (t : held n ys ≡ true). true≢false (sym t ∙ f)) (held_append n xs ys g))
    by false false false e f g = refl

-- the calls of two that have no number in common
pub places_two : (k : ℕ) (xs ys : List ℕ) (log : Log) → Apart xs ys
    → length (places_from k (xs ++ ys) log) ≡ length (places_from k xs log) + length (places_from k ys log)
places_two k xs ys [] apart = refl
places_two k xs ys (e ∷ log) apart =
    let r = places_two (k + 1) xs ys log apart in
    let h = held_in_two e.by xs ys apart in
    let a = counted_in (held e.by (xs ++ ys)) k (places_from (k + 1) (xs ++ ys) log) in
    let b = counted_in (held e.by xs) k (places_from (k + 1) xs log) in
    let c = counted_in (held e.by ys) k (places_from (k + 1) ys log) in
    omega arith

-- where each call of these stands in the front, the places are those of the front
pub places_same : (ns : List ℕ) (seen log : Log) → BeginsLog seen log
    → ((k : ℕ) (e : Entry) → slice_get log k ≡ Some e → held e.by ns ≡ true → k < length seen)
    → places ns log ≡ places ns seen
places_same ns seen log b calls = ap (λ (l : Log). places_from 0 ns l) b.1 ∙ places-append 0 ns seen b.0
    ∙ ap (λ (l : List ℕ). places_from 0 ns seen ++ l) (places_none (0 + length seen) ns b.0 (λ i e at is.
    let far : length seen + i < length seen =
    calls (length seen + i) e
    (subst (λ (l : Log). slice_get l (length seen + i) ≡ Some e) (sym b.1) (get_behind seen b.0 i e at))
    is in omega arith))
    ∙ append-nil (places_from 0 ns seen)

pub places_more : (ns : List ℕ) (seen : Log) (e : Entry) → held e.by ns ≡ true
    → places ns (seen ++ e ∷ []) ≡ places ns seen ++ length seen ∷ []
places_more ns seen e is = places-append 0 ns seen (e ∷ []) ∙ ap (λ (l : List ℕ). places_from 0 ns seen ++ l)
    (ap (λ (b : Bool). cond b ((0 + length seen) ∷ []) []) is ∙ ap (λ (n : ℕ). n ∷ []) (omega arith))

pub turns_set : (views : List Sight) (i : ℕ) (v w : Sight) → get_elem? views i ≡ some v
    → turns (set views i w) + weight v.turn ≡ turns views + weight w.turn
turns_set [] i v w e = absurd (some-ne-none v (sym e))
turns_set (x ∷ xs) zero v w e =
    let is : weight x.turn ≡ weight v.turn =
    ap (λ (m : Sight). weight m.turn) (some-injective x v e) in omega arith
turns_set (x ∷ xs) (suc i) v w e = let r = turns_set xs i v w e in omega arith

pub turns_snoc : (views : List Sight) (w : Sight) → turns (views ++ w ∷ []) ≡ turns views + weight w.turn
turns_snoc [] w = omega arith
turns_snoc (x ∷ xs) w = let r = turns_snoc xs w in omega arith

pub turns_has : (views : List Sight) (i : ℕ) (v : Sight) → get_elem? views i ≡ some v
    → weight v.turn ≤ turns views
turns_has [] i v e = absurd (some-ne-none v (sym e))
turns_has (x ∷ xs) zero v e =
    let is : weight x.turn ≡ weight v.turn =
    ap (λ (m : Sight). weight m.turn) (some-injective x v e) in omega arith
turns_has (x ∷ xs) (suc i) v e = let r = turns_has xs i v e in omega arith

pub turns_two : (views : List Sight) (i j : ℕ) (v u : Sight) → j ≢ i → get_elem? views i ≡ some v
    → get_elem? views j ≡ some u → weight v.turn + weight u.turn ≤ turns views
turns_two [] i j v u n e f = absurd (some-ne-none v (sym e))
turns_two (x ∷ xs) zero zero v u n e f = absurd (n refl)
turns_two (x ∷ xs) zero (suc j) v u n e f =
    let is : weight x.turn ≡ weight v.turn =
    ap (λ (m : Sight). weight m.turn) (some-injective x v e) in let r = turns_has xs j u f in omega arith
turns_two (x ∷ xs) (suc i) zero v u n e f =
    let is : weight x.turn ≡ weight u.turn =
    ap (λ (m : Sight). weight m.turn) (some-injective x u f) in let r = turns_has xs i v e in omega arith
turns_two (x ∷ xs) (suc i) (suc j) v u n e f = let r = turns_two xs i j v u (λ s. n (ap suc s)) e f in omega arith

module _ {A : Type 0} where
  pub at_within : (l : List A) (i : ℕ) (a : A) → get_elem? l i ≡ some a → i < length l
  at_within [] i a e = absurd (some-ne-none a (sym e))
  at_within (x ∷ xs) zero a e = omega arith
  at_within (x ∷ xs) (suc i) a e = let r = at_within xs i a e in omega arith

  pub at_end : (l : List A) (a b : A) (j : ℕ) → get_elem? (l ++ a ∷ []) j ≡ some b
      → (get_elem? l j ≡ some b) ⊎ ((j ≡ length l) × (a ≡ b))
  at_end [] a b zero e = inr (refl, some-injective a b e)
  at_end [] a b (suc j) e = absurd (some-ne-none b (sym e))
  at_end (x ∷ xs) a b zero e = inl e
  at_end (x ∷ xs) a b (suc j) e =
      ⊎_elim (λ (t : get_elem? xs j ≡ some b). inl t) (λ (t : (j ≡ length xs) × (a ≡ b)). inr (ap suc t.0, t.1))
      (at_end xs a b j e)

  pub set_only : (l : List A) (a : A) → length l ≡ 1 → set l 0 a ≡ a ∷ []
  set_only [] a e = absurd (omega arith)
  set_only (x ∷ []) a e = refl
  set_only (x ∷ y ∷ l) a e = absurd (omega arith)
