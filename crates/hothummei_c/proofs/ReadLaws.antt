-- Values of a row that are shown one by one.
use Rattle.std.proofs.Common.{◌≡◌, ◌<◌, ◌≤◌, ◌-◌, ℕ, zero, suc, List, [], ◌∷◌, ◌++◌, length, drop, Option, Some, None, Result, Ok, Err, inl, inr, refl, sym, ap, subst, ◌∙◌, arith}
use Rattle.std.specs.Prelude.{slice_get}
use Rattle.pgw_rows.specs.Rows.{value_at}
use Rattle.hothummei_c.specs.declared.values.Value.{Value}
use Rattle.hothummei_c.specs.Reads.{Pushes, PutsNext, Shown, values_by_cut, led, values_in}
use Rattle.hothummei_c.specs.Values.{TellsAll, TellsValue}

-- some values, and those that follow if there are such
abbrev pub led_all : List (Option (List ℕ)) → Option (List (Option (List ℕ))) → Option (List (Option (List ℕ)))
led_all [] more = more
led_all (v ∷ vs) more = led v (led_all vs more)

led_one : (front : List (Option (List ℕ))) (v : Option (List ℕ)) (more : Option (List (Option (List ℕ))))
    → led_all (front ++ v ∷ []) more ≡ led_all front (led v more)
led_one [] v more = refl
led_one (u ∷ front) v more = ap (led u) (led_one front v more)

led_none : (front : List (Option (List ℕ))) → led_all front None ≡ None
led_none [] = refl
led_none (u ∷ front) = ap (led u) (led_none front)

led_end : (front : List (Option (List ℕ))) → led_all front (Some []) ≡ Some front
led_end [] = refl
led_end (u ∷ front) = ap (led u) (led_end front)

tells_one : (front : List (Option (List ℕ))) (values : List Value) (v : Option (List ℕ)) (shown : Value)
    → TellsAll front values → TellsValue v shown → TellsAll (front ++ v ∷ []) (values ++ shown ∷ [])
tells_one [] [] v shown t s = (s, tt)
tells_one [] (x ∷ values) v shown t s = absurd t
tells_one (u ∷ front) [] v shown t s = absurd t
tells_one (u ∷ front) (x ∷ values) v shown t s = (t.0, tells_one front values v shown t.1 s)

-- what is shown, and what is left to be
pub record Showing (count : ℕ) (row : List ℕ) (values : List Value) (left at : ℕ) : Type 0 where
  pub within : at ≤ length row
  pub front : List (Option (List ℕ))
  pub tells : TellsAll front values
  pub all : led_all front (values_in left (drop at row)) ≡ values_in count row

pub begins_so : (count : ℕ) (row : List ℕ) (values : List Value) → values ≡ [] → Showing count row values count 0
begins_so count row values is =
    record { within = omega arith; front = []; tells = subst (TellsAll []) (sym is) tt; all = refl }

pub goes_on : (count : ℕ) (row : List ℕ) (values more : List Value) (left at next : ℕ) → 0 < left
    → Showing count row values left at → PutsNext values more row at (Ok next)
    → Showing count row more (left - 1) next
goes_on count row values more zero at next some s p = absurd (omega (arith, some))
goes_on count row values more (suc n) at next some s p =
    let v = p.0 in
    let shown = p.1 in
    let less : suc n - 1 ≡ n = omega arith in
    let here : values_in (suc n) (drop at row) ≡ led v (values_in n (drop next row)) =
    ap (λ (c : Option (Option (List ℕ) × List ℕ)). values_by_cut c (values_in n)) p.2 in
    record {
      within = p.3;
      front = s.front ++ v ∷ [];
      tells = subst (TellsAll (s.front ++ v ∷ [])) (sym p.4) (tells_one s.front values v shown s.tells p.5);
      all =
          ap (λ (k : ℕ). led_all (s.front ++ v ∷ []) (values_in k (drop next row))) less
          ∙ led_one s.front v (values_in n (drop next row))
          ∙ ap (led_all s.front) (sym here)
          ∙ s.all;
    }

-- it stops at a value
pub stops : (count : ℕ) (row : List ℕ) (values more now : List Value) (left at code : ℕ) → 0 < left
    → Showing count row values left at → PutsNext values more row at (Err code)
    → Shown (values_in count row) now code
stops count row values more now zero at code some s p = absurd (omega (arith, some))
stops count row values more now (suc n) at code some s (inl missing) =
    let here : values_in (suc n) (drop at row) ≡ None =
    ap (λ (c : Option (Option (List ℕ) × List ℕ)). values_by_cut c (values_in n)) missing.1 in
    let none : values_in count row ≡ None = sym s.all ∙ ap (led_all s.front) here ∙ led_none s.front in
    subst (λ (o : Option (List (Option (List ℕ)))). Shown o now code) (sym none) (inl missing.0)
stops count row values more now (suc n) at code some s (inr lack) = lacks (values_in count row)
  where
    lacks : (o : Option (List (Option (List ℕ)))) → Shown o now code
    lacks None = inr lack
    lacks (Some them) = inr lack

-- or comes to the end
pub ends_so : (count : ℕ) (row : List ℕ) (values : List Value) (left at : ℕ) → left ≡ 0
    → Showing count row values left at → Shown (values_in count row) values 0
ends_so count row values left at is s =
    let all : values_in count row ≡ Some s.front =
    sym s.all ∙ ap (λ (k : ℕ). led_all s.front (values_in k (drop at row))) is ∙ led_end s.front in
    subst (λ (o : Option (List (Option (List ℕ)))). Shown o values 0) (sym all) (inl (refl, s.tells))

-- one value more, by what stands there
pub puts : (value : Option (List ℕ)) (shown : Value) (next : ℕ) (old new : List Value) (row : List ℕ) (at : ℕ)
    (result : Result ℕ ℕ)
    → Pushes old new shown next result → value_at (drop at row) ≡ Some (value, drop next row) → next ≤ length row
    → TellsValue value shown
    → PutsNext old new row at result
puts value shown next old new row at (Ok n) p is within tells = (
  value,
  shown,
  is
      ∙ ap (λ (k : ℕ). Some (value, drop k row)) (sym p.0),
  subst (λ (k : ℕ). k ≤ length row) (sym p.0) within,
  p.1,
  tells,
)
puts value shown next old new row at (Err code) p is within tells = inr p

-- behind the first of a list one more is passed over
pub one_later : {A : Type 0} (x : A) (xs : List A) (n : ℕ) → (n ≡ 0 → ⊥)
    → slice_get (x ∷ xs) n ≡ slice_get xs (n - 1)
one_later x xs zero more = absurd (more refl)
one_later x xs (suc n) more =
    let less : suc n - 1 ≡ n = omega arith in
    ap (slice_get xs) (sym less)
