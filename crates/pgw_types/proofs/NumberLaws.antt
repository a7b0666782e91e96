-- Whole numbers in a text.
use Rattle.std.proofs.Common.{◌≡◌, ◌≢◌, ℕ, ◌<◌, ◌^◌, Bool, true, false, cond, ltb, ◌&&◌, List, [], ◌∷◌, length, get_or, Some, None, Result, Ok, Err, refl, sym, ap, arith, inl, inr, ◌⊎◌}
use Rattle.std.specs.List.{list_all}
use Rattle.std.specs.Result.{result_ok, result_unwrap_or}
use Rattle.std.specs.Prelude.{unwrap_or}
use Rattle.std.specs.Char.{is_digit, digit_value}
use Rattle.std.specs.Fmt.{decimal}
use Rattle.std.specs.Str.Parse.{without_leading_plus, digits_value, AllDigits, ParsesUnsigned}
use Rattle.std.proofs.lemmas.Bool.{lt-ltb, ltb-true, and_parts}
use Rattle.std.proofs.lemmas.Fmt.{decimal_is_IsNumeral}
use Rattle.std.proofs.lemmas.Str.Parse.{digit_at, without_leading_plus_none}
use Rattle.pgw_types.specs.Numbers.{number_in}

digits_are : (ds : List ℕ) → list_all (λ c. is_digit c 10) ds ≡ true → AllDigits 10 ds
digits_are [] h = tt
digits_are (d ∷ ds) h =
    let p =
    and_parts (ltb (digit_value d) 10) (list_all (λ c. is_digit c 10) ds) h in
    (ltb-true _ _ p.0, digits_are ds p.1)

are_digits : (ds : List ℕ) → AllDigits 10 ds → list_all (λ c. is_digit c 10) ds ≡ true
are_digits [] h = refl
are_digits (d ∷ ds) h = let p : ltb (digit_value d) 10 ≡ true = lt-ltb _ _ h.0 in rw (p, are_digits ds h.1) refl

abbrev chosen_by : {A : Type 0} → Bool → A → A → A → Type 0
chosen_by b x y r = ((b ≡ true) × (r ≡ x)) ⊎ ((b ≡ false) × (r ≡ y))

chosen : {A : Type 0} (b : Bool) (x y : A) → chosen_by b x y (cond b x y)
chosen true x y = inl (refl, refl)
chosen false x y = inr (refl, refl)

-- what `parse` gives is the number in the text
pub parsed : {E : Type 0} (bits : ℕ) (text : List ℕ) (r : Result ℕ E) → ParsesUnsigned bits 10 text r
    → result_ok r ≡ number_in bits text
unfolding number_in
parsed bits text (Ok n) h =
    let some : ltb 0 (length (without_leading_plus text)) ≡ true = lt-ltb _ _ h.0.0.0 in
    let fits : ltb (digits_value 10 (without_leading_plus text)) (2 ^ bits) ≡ true = lt-ltb _ _ h.0.1 in
    rw (some, are_digits (without_leading_plus text) h.0.0.1, fits) (ap (λ x. Some x) h.1)
parsed bits text (Err e) h =
    let digits = without_leading_plus text in
    let rest = list_all (λ c. is_digit c 10) digits && ltb (digits_value 10 digits) (2 ^ bits) in
    elim (chosen (ltb 0 (length digits) && rest) (Some (digits_value 10 digits)) None) [
      | inl k ↦
          let p = and_parts (ltb 0 (length digits)) rest k.0 in
          let q =
          and_parts (list_all (λ c. is_digit c 10) digits) (ltb (digits_value 10 digits) (2 ^ bits)) p.1 in
          absurd (h ((ltb-true _ _ p.0, digits_are digits q.0), ltb-true _ _ q.1))
      | inr k ↦ sym k.1
    ]

-- a number is what its digits write
pub number_in-decimal : (n bits : ℕ) → n < 2 ^ 64 → n < 2 ^ bits → number_in bits (decimal n) ≡ Some n
number_in-decimal n bits fits within =
    let numeral = decimal_is_IsNumeral n fits in
    let digit = digit_at (decimal n) 0 numeral.0.1 numeral.0.0 in
    let no_plus : get_or (decimal n) 0 0 ≢ 43 = omega (arith, digit) in
    let same : without_leading_plus (decimal n) ≡ decimal n = without_leading_plus_none (decimal n) no_plus in
    let value : digits_value 10 (decimal n) ≡ n = numeral.1 in
    let read : Result ℕ ℕ = Ok n in
    let h : ParsesUnsigned bits 10 (decimal n) read = rw (same, value) ((numeral.0, within), refl) in
    sym (parsed bits (decimal n) read h)

pub result_unwrap_or-ok : {E : Type 0} (r : Result ℕ E) (n : ℕ) → result_unwrap_or r n ≡ unwrap_or (result_ok r) n
result_unwrap_or-ok (Ok m) n = refl
result_unwrap_or-ok (Err e) n = refl
