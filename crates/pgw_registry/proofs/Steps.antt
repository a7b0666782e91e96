-- Each step keeps the rule.
use Rattle.std.proofs.Common.{◌≡◌, ◌≢◌, ◌⊎◌, inl, inr, ⊎_elim, ℕ, zero, suc, ◌+◌, ◌%◌, ◌^◌, ◌<◌, ◌≤◌, Bool, true, false, true≢false, cond, eqb, List, [], ◌∷◌, ◌++◌, length, set, get_or, Some, slice_get, Option, refl, sym, ap, ◌∙◌, subst, arith, append-nil, length-append, length-set}
use Rattle.std.proofs.lemmas.Bool.Decides.{nat_tests}
use mathlib.Core.Logic.{dite}
use mathlib.Core.Option as math
use mathlib.Core.Option.{some-injective, some-ne-none}
use native.Mathlib.Decide.{ℕ_discrete}
use lib.ListN.{get_elem?}
use Rattle.atomic_table.specs.Table.{State, step, keeps, takes, gives, stepped, Allows, Splits, Joins, opening, rest}
use Rattle.atomic_table.proofs.Lists.{at_set, at_longer, set_again, set_here, set_else}
use Rattle.pgw_registry.specs.declared.call.Call.{Call}
use Rattle.pgw_registry.specs.declared.call.Entry.{Entry}
use Rattle.pgw_registry.specs.declared.sight.Sight.{Sight}
use Rattle.pgw_registry.specs.declared.sight.Old.{Old}
use Rattle.pgw_registry.specs.Sequential.{Book, nothing, next_book, reply_of, state_after, IsLegal}
use Rattle.pgw_registry.specs.Numbers.{weight}
use Rattle.pgw_registry.specs.Shares.{IsSomeShare}
use Rattle.pgw_registry.proofs.Shares.{together_part, same_share, divided, joined, nothing_beside, within_whole}
use Rattle.pgw_registry.specs.History.{Log, BeginsLog, entry, held, turns, founder, newcomer, spent_sight, no_old, both_of, holding, at_rest, saw, halved, with_process, appended, SeesProcessLog, FitsHistory, KeepsHistory, Ruled, Sat, Grown, Later, HasAll, TookLog, Left, Looked, NamesProcess, AppendsToLog}
use Rattle.pgw_registry.proofs.Logs.{state_after-append, legal_snoc, begins_same, begins_none, begins_later, begins_longer, longer_first, longer_second, get_front, get_within, get_snoc, held_append, held_front, held_back, held_one, held_self, places_none, places_all, places_same, places_more, turns_set, turns_snoc, turns_has, turns_two, at_within, at_end, set_only}

abbrev Owner : Type 0
Owner = ℕ → math.Option ℕ

abbrev St : Type 0
St = State (Option Book) Sight

abbrev At : List Sight → ℕ → Sight → Type 0
At views j u = get_elem? views j ≡ math.some u

off : {A : Type 0} → false ≡ true → A
off e = absurd (true≢false (sym e))

on : {A : Type 0} → true ≡ false → A
on e = absurd (true≢false e)

-- what holds of each view still does, where one is changed
each_set : (P : ℕ → Sight → Type 0) (views : List Sight) (id : ℕ) (w : Sight)
    → ((j : ℕ) (u : Sight) → j ≢ id → At views j u → P j u) → P id w
    → (j : ℕ) (u : Sight) → At (set views id w) j u → P j u
each_set P views id w others here j u e = ⊎_elim
    (λ (t : (j ≡ id) × (w ≡ u)). subst (λ (z : ℕ × Sight). P z.0 z.1) (λ i. (sym t.0 i, t.1 i)) here)
    (λ (t : (j ≢ id) × At views j u). others j u t.0 t.1)
    (at_set views id j w u e)

-- an owner of one number more, and of the numbers of another
abbrev one_more : Owner → ℕ → Owner
one_more owner id n = cond (eqb n id) (math.some id) (owner n)

abbrev moved : Owner → List ℕ → ℕ → Owner
moved owner numbers id n = cond (held n numbers) (math.some id) (owner n)

chosen : (b : Bool) (x y z : math.Option ℕ) → (b ≡ true → x ≡ z) → (b ≡ false → y ≡ z) → cond b x y ≡ z
chosen true x y z h k = h refl
chosen false x y z h k = k refl

-- the choice is none, so it is the second
not_chosen : (b : Bool) (n : ℕ) (y : math.Option ℕ) → cond b (math.some n) y ≡ math.none
    → (b ≡ false) × (y ≡ math.none)
not_chosen true n y e = absurd (some-ne-none n e)
not_chosen false n y e = (refl, e)

two_owners : (x : math.Option ℕ) (i j : ℕ) → x ≡ math.some i → x ≡ math.some j → i ≡ j
two_owners x i j p q = some-injective i j (sym p ∙ q)

no_owner : {A : Type 0} (x : math.Option ℕ) (i : ℕ) → x ≡ math.some i → x ≡ math.none → A
no_owner x i p q = absurd (some-ne-none i (sym p ∙ q))

eqb_is : (n m : ℕ) → eqb n m ≡ true → n ≡ m
eqb_is n m e = grind (arith, nat_tests)

eqb_isn't : (n m : ℕ) → eqb n m ≡ false → n ≢ m
eqb_isn't n m e = grind (arith, nat_tests)

eqb_self : (n : ℕ) → eqb n n ≡ true
eqb_self n = grind (arith, nat_tests)

abbrev Homes : Type 0
Homes = List (math.Option (Option Book))

re_kept : (a b : List ℕ) (h i : Homes) (v w : List Sight) → a ≡ b → h ≡ i → v ≡ w → KeepsHistory a h v
    → KeepsHistory b i w
re_kept a b h i v w p q r k =
    subst (λ (z : List ℕ × Homes × List Sight). KeepsHistory z.0 z.1 z.2) (λ j. (p j, q j, r j)) k

grown : (log : Log) (owner : Owner) (id : ℕ) (seen : Log) (numbers : List ℕ)
    → SeesProcessLog log owner id seen numbers → Grown seen numbers log
grown log owner id seen numbers f = (f.begins, places_same numbers seen log f.begins f.calls)

-- the whole history stands for the same numbers
stands_whole : (log : Log) (owner : Owner) (id : ℕ) (seen : Log) (numbers : List ℕ)
    → SeesProcessLog log owner id seen numbers → SeesProcessLog log owner id log numbers
stands_whole log owner id seen numbers f =
    record { begins = begins_same log; calls = λ k e at is. get_within log k e at; owns = f.owns }

stands_none : (log : Log) (owner : Owner) (id : ℕ) (seen : Log) → BeginsLog seen log
    → SeesProcessLog log owner id seen []
stands_none log owner id seen b = record { begins = b; calls = λ k e at is. off is; owns = λ n is. off is }

-- another view makes a call
stands_later : (log : Log) (owner : Owner) (id : ℕ) (seen : Log) (numbers : List ℕ) (e : Entry)
    → SeesProcessLog log owner id seen numbers → (owner e.by ≡ math.some id → ⊥)
    → SeesProcessLog (log ++ e ∷ []) owner id seen numbers
stands_later log owner id seen numbers e f else_by = record {
  begins = begins_later seen log (e ∷ []) f.begins;
  calls = λ n x gets is. ⊎_elim (λ (was : slice_get log n ≡ Some x). f.calls n x was is)
      (λ (here : (n ≡ length log) × (e ≡ x)). absurd
      (else_by (f.owns e.by (subst (λ (y : Entry). held y.by numbers ≡ true) (sym here.1) is))))
      (get_snoc log e n x gets);
  owns = f.owns;
}

-- the owners are said in another way
stands_by : (log : Log) (owner owner' : Owner) (id id' : ℕ) (seen : Log) (numbers : List ℕ)
    → SeesProcessLog log owner id seen numbers
    → ((n : ℕ) → held n numbers ≡ true → owner n ≡ math.some id → owner' n ≡ math.some id')
    → SeesProcessLog log owner' id' seen numbers
stands_by log owner owner' id id' seen numbers f h =
    record { begins = f.begins; calls = f.calls; owns = λ n is. h n is (f.owns n is) }

-- ---- whose numbers are whose

abbrev Owned : Owner → List Sight → Type 0
Owned owner views = (n id : ℕ) → owner n ≡ math.some id → (v : Sight) × At views id v × (held n v.numbers ≡ true)

-- the numbers of one view are its own
held_at : (owner : Owner) (views : List Sight) (id : ℕ) (v : Sight) → At views id v → Owned owner views → (n : ℕ)
    → owner n ≡ math.some id → held n v.numbers ≡ true
held_at owner views id v at o n is =
    let t = o n id is in subst (λ (u : Sight). held n u.numbers ≡ true) (some-injective t.0 v (sym t.1 ∙ at)) t.2

owned_by : (owner now : Owner) (views : List Sight) (id : ℕ) (v w : Sight) → At views id v → Owned owner views
    → ((n : ℕ) → now n ≡ math.some id → held n w.numbers ≡ true)
    → ((n j : ℕ) → j ≢ id → now n ≡ math.some j → owner n ≡ math.some j) → Owned now (set views id w)
owned_by owner now views id v w at o here others n j is = dite (ℕ_discrete j id)
    (λ (e : j ≡ id). (
      w,
      subst (λ (m : ℕ). At (set views id w) m w) (sym e)
          (set_here views id w (at_within views id v at)),
      here n (is
          ∙ ap math.some e),
    ))
    (λ (ne : j ≢ id). let t = o n j (others n j ne is) in (t.0, set_else views id j w ne ∙ t.1, t.2))

-- the view that is changed has the same numbers
owned_same : (owner : Owner) (views : List Sight) (id : ℕ) (v w : Sight) → At views id v → w.numbers ≡ v.numbers
    → Owned owner views → Owned owner (set views id w)
owned_same owner views id v w at same o = owned_by owner owner views id v w at o
    (λ n is. ap (held n) same ∙ held_at owner views id v at o n is) (λ n j ne is. is)

-- a choice that is some number
chosen_is : (b : Bool) (x j : ℕ) (y : math.Option ℕ) → cond b (math.some x) y ≡ math.some j
    → ((b ≡ true) × (x ≡ j)) ⊎ ((b ≡ false) × (y ≡ math.some j))
chosen_is true x j y e = inl (refl, some-injective x j e)
chosen_is false x j y e = inr (refl, e)

-- beside the whole share there are no other calls
has_all : (words : List ℕ) (homes : Homes) (views : List Sight) (id : ℕ) (v : Sight)
    (k : KeepsHistory words homes views)
    → At views id v → HasAll v.share v.numbers k.log
has_all words homes views id v k at whole =
    places_all 0 v.numbers k.log
    (λ i e gets. by e (k.owner e.by) refl (λ none. k.unowned e.by none i e gets refl))
  where
    by : (e : Entry) (o : math.Option ℕ) → k.owner e.by ≡ o → (k.owner e.by ≡ math.none → ⊥)
        → held e.by v.numbers ≡ true
    by e math.none is some_one = absurd (some_one is)
    by e (math.some j) is some_one = let t = k.owned e.by j is in dite (ℕ_discrete j id)
        (λ (same : j ≡ id). held_at k.owner views id v at k.owned e.by (is ∙ ap math.some same))
        (λ (ne : j ≢ id). off
        (sym (ap (held e.by) ((k.each j t.0 t.1).spare
        (nothing_beside (λ (u : Sight). u.share) views k.shares id v at whole j t.0 ne t.1))) ∙ t.2))

later_of : (words : List ℕ) (homes : Homes) (views : List Sight) (id : ℕ) (v : Sight)
    (k : KeepsHistory words homes views)
    → At views id v → Later v k.log
later_of words homes views id v k at = (
  grown k.log k.owner id v.seen v.numbers (k.each id v at).now,
  k.legal,
  has_all words homes views id v k at,
  within_whole (λ (u : Sight). u.share) views k.shares id v at,
)

-- the view that is changed keeps its numbers
module _ (log : Log) (owner : Owner) (id : ℕ) (v : Sight) (f : FitsHistory log owner id v) where
  fits_holding : FitsHistory log owner id (holding v log)
  fits_holding =
      record {
        now = stands_whole log owner id v.seen v.numbers f.now;
        one = f.one;
        two = f.two;
        apart = f.apart;
        fresh = f.fresh;
        spare = f.spare;
        whole = λ _. (refl, refl);
      }

  fits_at_rest : FitsHistory log owner id (at_rest v)
  fits_at_rest =
      record {
        now = f.now;
        one = f.one;
        two = f.two;
        apart = f.apart;
        fresh = f.fresh;
        spare = f.spare;
        whole = λ
            e. off e;
      }

  fits_saw : FitsHistory log owner id (saw v log)
  fits_saw = record {
    now = stands_whole log owner id v.seen v.numbers f.now;
    one = stands_none log owner id [] (begins_none log);
    two = stands_none log owner id [] (begins_none log);
    apart = λ n a b. off a;
    fresh = f.fresh;
    spare = f.spare;
    whole = λ e. (refl, (f.whole e).1);
  }

-- where no view has the turn, one takes it, with the slot
took_turn : (words : List ℕ) (homes : Homes) (views : List Sight) (id : ℕ) (v : Sight)
    (k : KeepsHistory words homes views)
    → At views id v → turns views ≡ 0
    → KeepsHistory (set words 0 1) (set homes 0 math.none) (set views id (holding v k.log))
took_turn words homes views id v k at none =
    let w : Sight = holding v k.log in let s = turns_set views id v w at in let m = turns_has views id v at in
    let one : turns (set views id w) ≡ 1 = omega arith in record {
      log = k.log;
      owner = k.owner;
      counts = ap (λ (l : List ℕ). set l 0 1) k.counts ∙ ap (λ (n : ℕ). n ∷ length k.log ∷ []) (sym one);
      one_turn = omega arith;
      legal = k.legal;
      home = λ e. absurd (omega arith);
      each = each_set (FitsHistory k.log k.owner) views id w (λ j u _ e. k.each j u e)
          (fits_holding k.log k.owner id v (k.each id v at));
      shares = same_share (λ (u : Sight). u.share) views k.shares id v at w refl;
      owned = owned_same k.owner views id v w at refl k.owned;
      beyond = λ n h. k.beyond n (let l = length-set views id w in omega arith);
      unowned = k.unowned;
    }

pub takes_turn : (slots id : ℕ) (me : Sat)
    → Allows Ruled slots id me 0 (λ _. 1) (TookLog (step slots 0 1 0 math.none) me)
takes_turn slots id me s k _ at _ = let n : ℕ = get_or s.words 0 0 in let v : Sight = me.0 in
    let is : n ≡ turns s.views = ap (λ (l : List ℕ). get_or l 0 0) k.counts in
    dite (ℕ_discrete n 0)
    (λ (e : n ≡ 0). let none : turns s.views ≡ 0 = sym is ∙ e in (
      holding v k.log,
      takes 0 (Some (state_after nothing k.log)),
      ap (λ (h : Homes). get_elem? h 0) (k.home none),
      took_turn s.words s.homes s.views id v k at none,
      ((λ _. (k.log, later_of s.words s.homes s.views id v k at, refl, refl)), λ ne. absurd (ne e)),
    ))
    (λ (ne : n ≢ 0). let o = k.one_turn in let one : turns s.views ≡ 1 = omega arith in (
      v,
      keeps,
      tt,
      re_kept s.words (set s.words 0 1) s.homes s.homes s.views (set s.views id v)
          (k.counts ∙ ap (λ (m : ℕ). m ∷ length k.log ∷ []) one ∙ sym (ap (λ (l : List ℕ). set l 0 1) k.counts))
          refl (sym (set_again s.views id v at)) k,
      ((λ e. absurd (ne e)), λ _. (refl, refl)),
    ))

left_turn : (words : List ℕ) (homes : Homes) (views : List Sight) (id : ℕ) (v : Sight)
    → KeepsHistory words homes views → At views id v → v.turn ≡ true → length homes ≡ 1
    → KeepsHistory (set words 0 0) (set homes 0 (math.some (Some v.state))) (set views id (at_rest v))
left_turn words homes views id v k at turn single =
    let w : Sight =
    at_rest v in let s = turns_set views id v w at in let o = k.one_turn in let t = ap weight turn in
    let none : turns (set views id w) ≡ 0 = omega arith in let f = k.each id v at in record {
      log = k.log;
      owner = k.owner;
      counts = ap (λ (l : List ℕ). set l 0 0) k.counts ∙ ap (λ (n : ℕ). n ∷ length k.log ∷ []) (sym none);
      one_turn = omega arith;
      legal = k.legal;
      home = λ e. set_only homes (math.some (Some v.state)) single
          ∙ ap (λ (x : Book). math.some (Some x) ∷ []) (f.whole turn).1;
      each = each_set (FitsHistory k.log k.owner) views id w (λ j u _ e. k.each j u e)
          (fits_at_rest k.log k.owner id v f);
      shares = same_share (λ (u : Sight). u.share) views k.shares id v at w refl;
      owned = owned_same k.owner views id v w at refl k.owned;
      beyond = λ n h. k.beyond n (let l = length-set views id w in omega arith);
      unowned = k.unowned;
    }

pub leaves_turn : (slots id : ℕ) (me : Sat) → slots ≡ 1 → me.0.turn ≡ true
    → me.1 ≡ (0, Some me.0.state) ∷ rest me.1
    → Allows Ruled slots id me 0 (λ _. 0) (λ _. Left (step slots 0 0 0 math.none) me 0)
leaves_turn slots id me single turn carried s k sized at _ = let v : Sight = me.0 in (
  at_rest v,
  gives,
  tt,
  subst (λ (c : List (ℕ × Option Book)). Ruled (stepped s 0 0 id c (at_rest v) gives)) (sym carried)
      (left_turn s.words s.homes s.views id v k at turn (sized ∙ single)),
  (refl, refl),
)

pub looks : (slots id : ℕ) (me : Sat)
    → Allows Ruled slots id me 1 (λ n. n) (Looked (step slots 1 0 0 math.none) me)
looks slots id me s k _ at _ =
    let v : Sight =
    me.0 in let w : Sight = saw v k.log in let f = k.each id v at in let t = turns_set s.views id v w at in
    let same : turns (set s.views id w) ≡ turns s.views = omega arith in
    let n : ℕ = get_or s.words 1 0 in
    let is : n ≡ length k.log = ap (λ (l : List ℕ). get_or l 1 0) k.counts in (
      w,
      keeps,
      tt,
      record {
        log = k.log;
        owner = k.owner;
        counts =
            ap (λ (l : List ℕ). set l 1 (get_or l 1 0)) k.counts
            ∙ ap (λ (m : ℕ). m ∷ length k.log ∷ []) (sym same);
        one_turn = (let o = k.one_turn in omega arith);
        legal = k.legal;
        home = λ e. k.home (sym same ∙ e);
        each = each_set (FitsHistory k.log k.owner) s.views id w (λ j u _ e. k.each j u e)
            (fits_saw k.log k.owner id v f);
        shares = same_share (λ (u : Sight). u.share) s.views k.shares id v at w refl;
        owned = owned_same k.owner s.views id v w at refl k.owned;
        beyond = λ m h. k.beyond m (let l = length-set s.views id w in omega arith);
        unowned = k.unowned;
      },
      (
        k.log,
        later_of s.words s.homes s.views id v k at,
        refl,
        refl,
        is,
        grown k.log k.owner id v.one.seen
            v.one.numbers f.one,
        grown k.log k.owner id v.two.seen v.two.numbers f.two,
        f.apart,
        λ e. sym
            (f.whole e).0,
      ),
    )

-- a seat is told its number, which no one else has
pub names : (slots id : ℕ) (me : Sat) → me.0.named ≡ false → me.0.numbers ≡ [] → 0 < me.0.share.parts
    → Allows Ruled slots id me 1 (λ n. n) (NamesProcess (step slots 1 0 0 math.none) me)
names slots id me new bare part s k _ at _ =
    let v : Sight =
    me.0 in let w : Sight =
    with_process v id in let f = k.each id v at in let t = turns_set s.views id v w at in
    let same : turns (set s.views id w) ≡ turns s.views = omega arith in
    let owner : Owner = one_more k.owner id in
    let alone : k.owner id ≡ math.none = f.fresh new in
    let apart : (e : Entry) (j : ℕ) → slice_get k.log j ≡ Some e → held e.by (id ∷ []) ≡ true → ⊥ =
    λ e j there is. k.unowned id alone j e there (sym (held_one e.by id is)) in (
      w,
      keeps,
      tt,
      record {
        log = k.log;
        owner = owner;
        counts =
            ap (λ (l : List ℕ). set l 1 (get_or l 1 0)) k.counts
            ∙ ap (λ (m : ℕ). m ∷ length k.log ∷ []) (sym same);
        one_turn = (let o = k.one_turn in omega arith);
        legal = k.legal;
        home = λ e. k.home (sym same ∙ e);
        each = each_set (FitsHistory k.log owner) s.views id w
            (λ j u ne e. let g = k.each j u e in
            let same_owner : (numbers : List ℕ) → (n : ℕ) → held n numbers ≡ true → k.owner n ≡ math.some j
            → owner n ≡ math.some j =
            λ numbers n is was. chosen (eqb n id) (math.some id) (k.owner n) (math.some j)
            (λ hit. no_owner (k.owner id) j (subst (λ (m : ℕ). k.owner m ≡ math.some j) (eqb_is n id hit) was)
            alone)
            (λ _. was) in record {
              now = stands_by k.log k.owner owner j j u.seen u.numbers g.now (same_owner u.numbers);
              one = stands_by k.log k.owner owner j j u.one.seen u.one.numbers g.one (same_owner u.one.numbers);
              two = stands_by k.log k.owner owner j j u.two.seen u.two.numbers g.two (same_owner u.two.numbers);
              apart = g.apart;
              fresh =
                  λ e. chosen (eqb j id) (math.some id) (k.owner j) math.none
                  (λ hit. absurd (ne (eqb_is j id hit))) (λ _. g.fresh e);
              spare = g.spare;
              whole = g.whole;
            })
            (let no_more : (numbers : List ℕ) → (n : ℕ) → held n numbers ≡ true → k.owner n ≡ math.some id → owner
            n ≡ math.some id =
            λ numbers n is was. chosen (eqb n id) (math.some id) (k.owner n) (math.some id) (λ _. refl)
            (λ _. was) in record {
              now = record {
                begins = f.now.begins;
                calls = λ j e there is. absurd (apart e j there is);
                owns = λ n is. ap (λ (b : Bool). cond b (math.some id) (k.owner n))
                    (ap (λ (m : ℕ). eqb n m) (held_one n id is)
                    ∙ eqb_self n);
              };
              one = stands_by k.log k.owner owner id id v.one.seen v.one.numbers f.one (no_more v.one.numbers);
              two = stands_by k.log k.owner owner id id v.two.seen v.two.numbers f.two (no_more v.two.numbers);
              apart = f.apart;
              fresh = λ e. on e;
              spare = λ none. absurd (omega arith);
              whole = f.whole;
            });
        shares = same_share (λ (u : Sight). u.share) s.views k.shares id v at w refl;
        owned = owned_by k.owner owner s.views id v w at k.owned
            (λ n is. ⊎_elim
            (λ (t : (eqb n id ≡ true) × (id ≡ id)). subst (λ (m : ℕ). held n (m ∷ []) ≡ true) (eqb_is n id t.0)
            (held_self n))
            (λ (t : (eqb n id ≡ false) × (k.owner n ≡ math.some id)). off (sym (ap (held n) bare)
            ∙ held_at k.owner s.views id v at k.owned n t.1))
            (chosen_is (eqb n id) id id (k.owner n) is))
            (λ n j ne is. ⊎_elim
            (λ (t : (eqb n id ≡ true) × (id ≡ j)). absurd (ne (sym t.1)))
            (λ (t : (eqb n id ≡ false) × (k.owner n ≡ math.some j)). t.1)
            (chosen_is (eqb n id) id j (k.owner n) is));
        beyond = λ n h. (let l = length-set s.views id w in let i = at_within s.views id v at in
            chosen (eqb n id) (math.some id) (k.owner n) math.none
            (λ hit. let z = eqb_is n id hit in absurd (omega arith)) (λ _. k.beyond n (omega arith)));
        unowned = λ n e. k.unowned n (not_chosen (eqb n id) id (k.owner n) e).1;
      },
      (
        id,
        refl,
        refl,
        places_none 0 (id ∷ []) v.seen
            (λ j e there is. apart e j
            (subst (λ (l : Log). slice_get l j ≡ Some e) (sym f.now.begins.1)
            (get_front v.seen f.now.begins.0 j e there)) is),
      ),
    )

abbrev fresh_entry : Sight → Call → Entry
fresh_entry v c = entry v.own c (reply_of v.state c)

-- the entry is appended by the view with the turn
append_one : (words : List ℕ) (homes : Homes) (views : List Sight) (id : ℕ) (v : Sight) (c : Call)
    → KeepsHistory words homes views → At views id v → v.turn ≡ true → held v.own v.numbers ≡ true
    → v.one ≡ no_old → v.two ≡ no_old → length v.seen < 18446744073709551615
    → KeepsHistory (set words 1 (length v.seen + 1)) homes (set views id (appended v c))
append_one words homes views id v c k at turn own no_one no_two room =
    let w : Sight =
    appended v c in let f = k.each id v at in let t = turns_set views id v w at in let o = k.one_turn in
    let seen : v.seen ≡ k.log =
    (f.whole turn).0 in let state : v.state ≡ state_after nothing k.log = (f.whole turn).1 in
    let e : Entry = fresh_entry v c in let log : Log = k.log ++ e ∷ [] in
    let same : turns (set views id w) ≡ turns views = omega arith in
    let mine : k.owner v.own ≡ math.some id = f.now.owns v.own own in
    let busy : 1 ≤ turns views = (let h = turns_has views id v at in let z = ap weight turn in omega arith) in
    let all : v.seen ++ e ∷ [] ≡ log = ap (λ (l : Log). l ++ e ∷ []) seen in
    let long : length log ≡ length v.seen + 1 =
    (let a = length-append k.log (e ∷ []) in let b = ap length seen in omega arith) in record {
      log = log;
      owner = k.owner;
      counts =
          ap (λ (l : List ℕ). set l 1 (length v.seen + 1)) k.counts
          ∙ ap (λ (z : ℕ × ℕ). z.0 ∷ z.1 ∷ []) (λ i. (sym same i, sym long i));
      one_turn = omega arith;
      legal =
          legal_snoc k.log e k.legal (let r = ap length seen in omega arith)
          (ap (λ (z : Book). reply_of z c) state);
      home = λ z. absurd (omega arith);
      each = each_set (FitsHistory log k.owner) views id w
          (λ j u ne there. let g = k.each j u there in
          let idle : u.turn ≡ true → ⊥ =
          λ both. (let two = turns_two views id j v u ne at there in let y = ap weight turn in let z = ap
          weight both in omega arith) in record {
            now = stands_later k.log k.owner j u.seen u.numbers e g.now
                (λ theirs. ne (two_owners (k.owner v.own) j id theirs mine));
            one = stands_later k.log k.owner j u.one.seen u.one.numbers e g.one
                (λ theirs. ne (two_owners (k.owner v.own) j id theirs mine));
            two = stands_later k.log k.owner j u.two.seen u.two.numbers e g.two
                (λ theirs. ne (two_owners (k.owner v.own) j id theirs mine));
            apart = g.apart;
            fresh = g.fresh;
            spare = g.spare;
            whole = λ both. absurd (idle both);
          })
          (record {
            now = record {
              begins = ([], sym all ∙ sym (append-nil (v.seen ++ e ∷ [])));
              calls = λ n x gets is. (let a = get_within log n x gets in let b = ap length all in omega arith);
              owns = f.now.owns;
            };
            one = subst (λ (z : Old). SeesProcessLog log k.owner id z.seen z.numbers) (sym no_one)
                (stands_none log k.owner id [] (begins_none log));
            two = subst (λ (z : Old). SeesProcessLog log k.owner id z.seen z.numbers) (sym no_two)
                (stands_none log k.owner id [] (begins_none log));
            apart = λ n a b. off (sym (ap (λ (z : Old). held n z.numbers) no_one) ∙ a);
            fresh = f.fresh;
            spare = f.spare;
            whole =
                λ _. (
                  all,
                  ap (λ (z : Book). next_book z c) state
                      ∙ sym (state_after-append nothing k.log (e ∷ [])),
                );
          });
      shares = same_share (λ (u : Sight). u.share) views k.shares id v at w refl;
      owned = owned_same k.owner views id v w at refl k.owned;
      beyond = λ n h. k.beyond n (let l = length-set views id w in omega arith);
      unowned = λ n none j x gets. ⊎_elim (λ (was : slice_get k.log j ≡ Some x). k.unowned n none j x was)
          (λ (here : (j ≡ length k.log) × (e ≡ x)). λ (is : x.by ≡ n). no_owner (k.owner v.own) id mine
          (ap k.owner (ap (λ (y : Entry). y.by) here.1 ∙ is) ∙ none))
          (get_snoc k.log e j x gets);
    }

pub appends : (slots id : ℕ) (me : Sat) (c : Call) → me.0.turn ≡ true → held me.0.own me.0.numbers ≡ true
    → me.0.one ≡ no_old → me.0.two ≡ no_old → length me.0.seen < 18446744073709551615
    → Allows Ruled slots id me 1 (λ n. (n + 1) % 2 ^ 64) (AppendsToLog c (step slots 1 1 0 math.none) me)
appends slots id me c turn own no_one no_two room s k _ at _ =
    let v : Sight =
    me.0 in let w : Sight = appended v c in let f = k.each id v at in let n : ℕ = get_or s.words 1 0 in
    let seen : v.seen ≡ k.log = (f.whole turn).0 in
    let is : n ≡ length k.log = ap (λ (l : List ℕ). get_or l 1 0) k.counts in
    let len = ap length seen in
    let to : length v.seen + 1 ≡ (n + 1) % 2 ^ 64 = omega arith in
    let after : KeepsHistory (set s.words 1 (length v.seen + 1)) s.homes (set s.views id w) =
    append_one s.words s.homes s.views id v c k at turn own no_one no_two room in (
      w,
      keeps,
      tt,
      subst (λ (m : ℕ). KeepsHistory (set s.words 1 m) s.homes (set s.views id w)) to after,
      (
        refl,
        refl,
        legal_snoc v.seen (fresh_entry v c) (subst IsLegal (sym seen) k.legal) room
            (ap (λ (z : Book). reply_of z c) ((f.whole turn).1 ∙ ap (state_after nothing) (sym seen))),
        places_more v.numbers v.seen (fresh_entry v c) own,
      ),
    )

pub forks : (id : ℕ) (v : Sight) → Splits Ruled id v (halved v) (newcomer v)
forks id v s k at =
    let w : Sight =
    newcomer v in let left : Sight =
    halved v in let views : List Sight = set s.views id left in let f = k.each id v at in
    let t =
    turns_set s.views id v left at in let t' = turns_snoc views w in let long = length-set s.views id left in
    let more : turns s.views ≡ turns (views ++ w ∷ []) = omega arith in
    let held_still : Owned k.owner views = owned_same k.owner s.views id v left at refl k.owned in record {
      log = k.log;
      owner = k.owner;
      counts = k.counts ∙ ap (λ (m : ℕ). m ∷ length k.log ∷ []) more;
      one_turn = (let o = k.one_turn in omega arith);
      legal = k.legal;
      home = λ e. k.home (more ∙ e);
      each = λ j u there. ⊎_elim
          (each_set (FitsHistory k.log k.owner) s.views id left (λ i y _ e. k.each i y e)
          (record {
            now = f.now;
            one = f.one;
            two = f.two;
            apart = f.apart;
            fresh = f.fresh;
            spare = f.spare;
            whole = f.whole;
          }) j u)
          (λ (here : (j ≡ length views) × (w ≡ u)). subst (FitsHistory k.log k.owner j) here.1 (record {
            now = stands_none k.log k.owner j v.seen f.now.begins;
            one = stands_none k.log k.owner j [] (begins_none k.log);
            two = stands_none k.log k.owner j [] (begins_none k.log);
            apart = λ n a b. off a;
            fresh = λ _. k.beyond j (let h = here.0 in omega arith);
            spare = λ _. refl;
            whole = λ e. off e;
          })) (at_end views w u j there);
      shares = divided (λ (u : Sight). u.share) s.views k.shares id v at left w refl refl;
      owned = λ n j is. (let o = held_still n j is in (o.0, at_longer views (w ∷ []) j o.0 o.1, o.2));
      beyond = λ n h. k.beyond n (let l = length-append views (w ∷ []) in omega arith);
      unowned = k.unowned;
    }

pub merges : (id other : ℕ) (v u : Sight) → v.turn ≡ false → u.turn ≡ false → IsSomeShare v.share
    → IsSomeShare u.share → Joins Ruled id v other u (both_of v u) spent_sight
merges id other v u idle idle' part part' s k at apart there =
    let w : Sight = both_of v u in let mid : List Sight = set s.views id w in
    let was : At s.views other u = sym (set_else s.views id other w apart) ∙ there in
    let f = k.each id v at in let g = k.each other u was in
    let t =
    turns_set s.views id v w at in let t' =
    turns_set mid other u spent_sight there in let z = ap weight idle in let z' = ap weight idle' in
    let same : turns (set mid other spent_sight) ≡ turns s.views = omega arith in
    let owner : Owner = moved k.owner u.numbers id in
    let theirs : (n : ℕ) → held n u.numbers ≡ true → owner n ≡ math.some id =
    λ n is. ap (λ (b : Bool). cond b (math.some id) (k.owner n)) is in
    let others' : (i : ℕ) → i ≢ other → (numbers : List ℕ) (n : ℕ) → held n numbers ≡ true
    → k.owner n ≡ math.some i → owner n ≡ math.some i =
    λ i far numbers n is was. chosen (held n u.numbers) (math.some id) (k.owner n) (math.some i)
    (λ hit. absurd (far (two_owners (k.owner n) i other was (g.now.owns n hit)))) (λ _. was) in
    let far_id : id ≢ other = λ e. apart (sym e) in record {
      log = k.log;
      owner = owner;
      counts = k.counts ∙ ap (λ (m : ℕ). m ∷ length k.log ∷ []) (sym same);
      one_turn = (let o = k.one_turn in omega arith);
      legal = k.legal;
      home = λ e. k.home (sym same ∙ e);
      each = each_set (FitsHistory k.log owner) mid other spent_sight
          (λ j x ne gets. each_set (λ i y. i ≢ other → FitsHistory k.log owner i y) s.views id w
          (λ i y ne' at' far. let h = k.each i y at' in record {
            now = stands_by k.log k.owner owner i i y.seen y.numbers h.now (others' i far y.numbers);
            one = stands_by k.log k.owner owner i i y.one.seen y.one.numbers h.one (others' i far y.one.numbers);
            two = stands_by k.log k.owner owner i i y.two.seen y.two.numbers h.two (others' i far y.two.numbers);
            apart = h.apart;
            fresh =
                λ e. chosen (held i u.numbers) (math.some id) (k.owner i) math.none
                (λ hit. no_owner (k.owner i) other (g.now.owns i hit) (h.fresh e)) (λ _. h.fresh e);
            spare = h.spare;
            whole = h.whole;
          })
          (λ far. record {
            now = record {
              begins = begins_longer v.seen u.seen k.log f.now.begins g.now.begins;
              calls =
                  λ n e gets is. ⊎_elim
                  (λ (a : held e.by v.numbers ≡ true).
                  (let b = f.now.calls n e gets a in let c = longer_first v.seen u.seen in omega arith))
                  (λ (a : held e.by u.numbers ≡ true).
                  (let b = g.now.calls n e gets a in let c = longer_second v.seen u.seen in omega arith))
                  (held_append e.by v.numbers u.numbers is);
              owns = λ n is. ⊎_elim
                  (λ (a : held n v.numbers ≡ true). others' id far_id v.numbers n a (f.now.owns n a))
                  (λ (a : held n u.numbers ≡ true). theirs n a) (held_append n v.numbers u.numbers is);
            };
            one = stands_by k.log k.owner owner id id v.seen v.numbers f.now (others' id far_id v.numbers);
            two = stands_by k.log k.owner owner other id u.seen u.numbers g.now (λ n is _. theirs n is);
            apart = λ n a b. apart (two_owners (k.owner n) other id (g.now.owns n b) (f.now.owns n a));
            fresh =
                λ e. chosen (held id u.numbers) (math.some id) (k.owner id) math.none
                (λ hit. no_owner (k.owner id) other (g.now.owns id hit) (f.fresh e)) (λ _. f.fresh e);
            spare = λ none. absurd (let z = (together_part v.share u.share part part').0 in omega arith);
            whole = λ e. absurd (true≢false (sym e ∙ idle));
          })
          j x gets ne)
          (record {
            now = stands_none k.log owner other [] (begins_none k.log);
            one = stands_none k.log owner other [] (begins_none k.log);
            two = stands_none k.log owner other [] (begins_none k.log);
            apart = λ n a b. off a;
            fresh = λ e. on e;
            spare = λ _. refl;
            whole = λ e. off e;
          });
      shares = joined (λ (y : Sight). y.share) s.views k.shares id v at other u w spent_sight apart was refl refl;
      owned = λ n j is. ⊎_elim
          (λ (t : (held n u.numbers ≡ true) × (id ≡ j)). (
            w,
            subst (λ (m : ℕ). At (set mid other spent_sight) m w) t.1 (set_else mid other id spent_sight far_id
                ∙ set_here s.views id w (at_within s.views id v at)),
            held_back n v.numbers u.numbers t.0,
          ))
          (λ (t : (held n u.numbers ≡ false) × (k.owner n ≡ math.some j)).
          let far : j ≢ other =
          λ e. on (sym (held_at k.owner s.views other u was k.owned n (t.1 ∙ ap math.some e)) ∙ t.0) in
          let o = owned_by k.owner k.owner s.views id v w at k.owned
          (λ m mine. held_front m v.numbers u.numbers (held_at k.owner s.views id v at k.owned m mine))
          (λ m i ne e. e) n j t.1 in
          (o.0, set_else mid other j spent_sight far ∙ o.1, o.2))
          (chosen_is (held n u.numbers) id j (k.owner n) is);
      beyond =
          λ n h. (let a = length-set mid other spent_sight in let b = length-set s.views id w in let none =
          k.beyond n (omega arith) in
          chosen (held n u.numbers) (math.some id) (k.owner n) math.none
          (λ hit. no_owner (k.owner n) other (g.now.owns n hit) none) (λ _. none));
      unowned = λ n e. k.unowned n (not_chosen (held n u.numbers) id (k.owner n) e).1;
    }

abbrev first_owner : Owner
first_owner n = cond (eqb n 0) (math.some 0) math.none

alone_at_start : (id : ℕ) (v : Sight) → At (founder ∷ []) id v → FitsHistory [] first_owner id v
alone_at_start zero v e = subst (FitsHistory [] first_owner 0) (some-injective _ _ e) (record {
  now = record {
    begins = begins_same [];
    calls = λ k x gets. absurd (cc);
    owns = λ n is. ap (λ (m : ℕ). first_owner m) (sym (held_one n 0 is));
  };
  one = stands_none [] first_owner 0 [] (begins_same []);
  two = stands_none [] first_owner 0 [] (begins_same []);
  apart = λ n a b. off a;
  fresh = λ e. on e;
  spare = λ none. absurd (omega arith);
  whole = λ e. off e;
})
alone_at_start (suc i) v e = absurd (some-ne-none v (sym e))

-- the rule at the start
pub begins : Ruled (opening (0 ∷ 0 ∷ []) (Some nothing ∷ []) founder)
begins = record {
  log = [];
  owner = first_owner;
  counts = refl;
  one_turn = omega arith;
  legal = (omega arith, tt);
  home = λ _. refl;
  each = alone_at_start;
  shares = record { units = 1; some = omega arith; all = (1, 0, refl, (refl, omega arith), refl) };
  owned = λ n id is. ⊎_elim
      (λ (t : (eqb n 0 ≡ true) × (0 ≡ id)). (
        founder,
        ap (get_elem? (founder ∷ [])) (sym t.1),
        subst (λ (m : ℕ). held n (m ∷ []) ≡ true)
            (eqb_is n 0 t.0) (held_self n),
      ))
      (λ (t : (eqb n 0 ≡ false) × (math.none ≡ math.some id)). absurd (some-ne-none id (sym t.1)))
      (chosen_is (eqb n 0) 0 id math.none is);
  beyond =
      λ n h. chosen (eqb n 0) (math.some 0) math.none math.none
      (λ hit. let z = eqb_is n 0 hit in absurd (omega arith)) (λ _. refl);
  unowned = λ n e k x gets. absurd (cc);
}
