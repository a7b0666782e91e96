-- Digits are read as std reads them.
use Rattle.std.proofs.Common.{◌≡◌, ℕ, ◌<◌, ◌^◌, ◌==◌, Bool, true, false, cond, ltb, ◌&&◌, ◌⊎◌, List, [], ◌∷◌, length, Some, None, Result, Ok, Err, refl, sym, ap, ◌∙◌, subst, arith, inl, inr}
use Rattle.std.specs.List.{list_all, slice_index}
use Rattle.std.specs.Result.{result_ok}
use Rattle.std.specs.Char.{is_digit, digit_value}
use Rattle.std.specs.Str.Parse.{without_leading_plus, digits_value, AllDigits, IsNumeral, ParsesUnsigned}
use Rattle.std.proofs.lemmas.Bool.{lt-ltb, ltb-true, and_parts}
use Rattle.std.proofs.lemmas.Bool.Decides.{nat_tests}
use Rattle.std.proofs.lemmas.Str.Parse.{without_leading_plus_none}
use Rattle.pgw_config.specs.HostAddr.{digits_in, exactly}

pub chosen : {X : Type 0} (b : Bool) (x y z : X) → cond b x y ≡ z
    → ((b ≡ true) × (x ≡ z)) ⊎ ((b ≡ false) × (y ≡ z))
chosen true x y z e = inl (refl, e)
chosen false x y z e = inr (refl, e)

pub digits_are : (radix : ℕ) (ds : List ℕ) → list_all (λ c. is_digit c radix) ds ≡ true → AllDigits radix ds
digits_are radix [] h = tt
digits_are radix (d ∷ ds) h =
    let p =
    and_parts (ltb (digit_value d) radix) (list_all (λ c. is_digit c radix) ds) h in
    (ltb-true _ _ p.0, digits_are radix ds p.1)

pub are_digits : (radix : ℕ) (ds : List ℕ) → AllDigits radix ds → list_all (λ c. is_digit c radix) ds ≡ true
are_digits radix [] h = refl
are_digits radix (d ∷ ds) h =
    let p : ltb (digit_value d) radix ≡ true = lt-ltb _ _ h.0 in rw (p, are_digits radix ds h.1) refl

-- digits alone, as a numeral that fits
pub numeral_in : (radix bits : ℕ) (ds : List ℕ) → IsNumeral radix ds → digits_value radix ds < 2 ^ bits
    → digits_in radix bits ds ≡ Some (digits_value radix ds)
unfolding digits_in
numeral_in radix bits ds h small =
    let some : ltb 0 (length ds) ≡ true = lt-ltb _ _ h.0 in
    let fits : ltb (digits_value radix ds) (2 ^ bits) ≡ true = lt-ltb _ _ small in
    rw (some, are_digits radix ds h.1, fits) refl

pub no_numeral_in : (radix bits : ℕ) (ds : List ℕ)
    → ((IsNumeral radix ds × (digits_value radix ds < 2 ^ bits)) → ⊥) → digits_in radix bits ds ≡ None
unfolding digits_in
no_numeral_in radix bits ds h =
    let rest = list_all (λ c. is_digit c radix) ds && ltb (digits_value radix ds) (2 ^ bits) in
    elim (chosen (ltb 0 (length ds) && rest) (Some (digits_value radix ds)) None (digits_in radix bits ds) refl) [
      | inl k ↦
          let p = and_parts (ltb 0 (length ds)) rest k.0 in
          let q = and_parts (list_all (λ c. is_digit c radix) ds) (ltb (digits_value radix ds) (2 ^ bits)) p.1 in
          absurd (h ((ltb-true _ _ p.0, digits_are radix ds q.0), ltb-true _ _ q.1))
      | inr k ↦ sym k.1
    ]

plain : {E : Type 0} (radix bits : ℕ) (ds : List ℕ) (r : Result ℕ E) → ParsesUnsigned bits radix ds r
    → without_leading_plus ds ≡ ds → result_ok r ≡ digits_in radix bits ds
plain radix bits ds (Ok n) h e =
    let k : (IsNumeral radix ds × (digits_value radix ds < 2 ^ bits)) × (n ≡ digits_value radix ds) =
    subst (λ (t : List ℕ). (IsNumeral radix t × (digits_value radix t < 2 ^ bits)) ×
    (n ≡ digits_value radix t)) e h in
    ap (λ (x : ℕ). Some x) k.1 ∙ sym (numeral_in radix bits ds k.0.0 k.0.1)
plain radix bits ds (Err x) h e =
    sym (no_numeral_in radix bits ds
    (subst (λ (t : List ℕ). (IsNumeral radix t × (digits_value radix t < 2 ^ bits)) → ⊥) e h))

pub digits_parsed : {E : Type 0} (radix bits : ℕ) (ds : List ℕ) (r : Result ℕ E) → ParsesUnsigned bits radix ds r
    → (slice_index ds 0 == 43) ≡ false → result_ok r ≡ digits_in radix bits ds
digits_parsed radix bits ds r h e =
    plain radix bits ds r h (without_leading_plus_none ds (λ k. grind (arith, nat_tests, e, k)))

first_is : (radix : ℕ) (ds : List ℕ) → (slice_index ds 0 == 43) ≡ true → AllDigits radix ds → 0 < length ds
    → digit_value 43 < radix
first_is radix [] e h some = absurd (omega (arith, some))
first_is radix (d ∷ ds) e h some =
    let is : d ≡ 43 = grind (arith, nat_tests, e) in
    subst (λ (x : ℕ). digit_value x < radix) is h.0

pub plus_is_none : (radix bits : ℕ) (ds : List ℕ) → ltb (digit_value 43) radix ≡ false
    → (slice_index ds 0 == 43) ≡ true → None ≡ digits_in radix bits ds
plus_is_none radix bits ds big e =
    sym (no_numeral_in radix bits ds
    (λ h. let k : ltb (digit_value 43) radix ≡ true = lt-ltb _ _ (first_is radix ds e h.0.1 h.0.0) in cc))

-- a list of eight is its eight elements
pub eight : (xs : List ℕ) → length xs ≡ 8
    → xs ≡ slice_index xs 0 ∷ slice_index xs 1 ∷ slice_index xs 2 ∷ slice_index xs 3 ∷ slice_index xs 4 ∷
    slice_index xs 5 ∷ slice_index xs 6 ∷ slice_index xs 7 ∷ []
eight (a ∷ b ∷ c ∷ d ∷ e ∷ f ∷ g ∷ h ∷ []) l = refl
eight [] l = absurd (omega (arith, l))
eight (a ∷ []) l = absurd (omega (arith, l))
eight (a ∷ b ∷ []) l = absurd (omega (arith, l))
eight (a ∷ b ∷ c ∷ []) l = absurd (omega (arith, l))
eight (a ∷ b ∷ c ∷ d ∷ []) l = absurd (omega (arith, l))
eight (a ∷ b ∷ c ∷ d ∷ e ∷ []) l = absurd (omega (arith, l))
eight (a ∷ b ∷ c ∷ d ∷ e ∷ f ∷ []) l = absurd (omega (arith, l))
eight (a ∷ b ∷ c ∷ d ∷ e ∷ f ∷ g ∷ []) l = absurd (omega (arith, l))
eight (a ∷ b ∷ c ∷ d ∷ e ∷ f ∷ g ∷ h ∷ i ∷ more) l = absurd (omega (arith, l))

pub exactly_is : (n : ℕ) (xs : List ℕ) → length xs ≡ n → exactly n (Some xs) ≡ Some xs
exactly_is n xs e = let k : (length xs == n) ≡ true = grind (arith, nat_tests, e) in rw k refl
