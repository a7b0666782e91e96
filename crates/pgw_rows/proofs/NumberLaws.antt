-- Whole numbers in a text.
use Rattle.std.proofs.Common.{◌≡◌, ℕ, zero, suc, ℤ, pos, negsuc, ◌<◌, ◌^◌, Bool, true, false, cond, eqb, ltb, ◌&&◌, List, [], ◌∷◌, length, drop, get_or, Some, None, Result, Ok, Err, refl, sym, ap, ◌∙◌, arith, inl, inr}
use Rattle.std.specs.Fmt.{signed_decimal}
use Rattle.std.specs.Result.{result_ok}
use Rattle.std.specs.Str.{IsUtf8, IsAscii, all_ascii_digits}
use Rattle.std.specs.Str.Parse.{AllDigits, digits_value, without_leading_sign, signed_digits_value, ParsesSigned}
use Rattle.std.proofs.lemmas.Bool.{lt-ltb, ltb-true, eqb-true, and_parts}
use Rattle.std.proofs.lemmas.Fmt.{parse-signed_decimal}
use Rattle.std.proofs.lemmas.List.{get_or_past}
use Rattle.std.proofs.lemmas.Str.{IsUtf8-from_ascii}
use Rattle.std.proofs.lemmas.Str.Parse.{IsNumeralModel, digit_from_value, numerals_by_value, tells_all_ascii_digits}
use lib.Signed.{mag}
use mir.Syntax.{Width}
use mir.Val.{SFits}
use Rattle.pgw_wire.specs.Steps.{chosen}
use Rattle.pgw_rows.specs.Values.{integer_in, is_within}

numerals : IsNumeralModel (λ ds. all_ascii_digits ds ≡ true) (digits_value 10)
numerals = numerals_by_value _ tells_all_ascii_digits

within_is : (w : Width) (z : ℤ) → SFits w z → is_within w z ≡ true
within_is w (pos n) h = lt-ltb _ _ h.sfits
within_is w (negsuc n) h = lt-ltb _ _ h.sfits

fits_within : (w : Width) (z : ℤ) → is_within w z ≡ true → SFits w z
fits_within w (pos n) h = record { sfits = ltb-true _ _ h }
fits_within w (negsuc n) h = record { sfits = ltb-true _ _ h }

abbrev numeral : Width → List ℕ → Bool
numeral w text =
    ltb 0 (length (without_leading_sign text)) &&
    (all_ascii_digits (without_leading_sign text) && is_within w (signed_digits_value 10 text))

-- what a numeral is made of
record IsNumeralOf (w : Width) (text : List ℕ) : Type 0 where
  some : 0 < length (without_leading_sign text)
  digits : AllDigits 10 (without_leading_sign text)
  fits : SFits w (signed_digits_value 10 text)

parts_of : (w : Width) (text : List ℕ) → numeral w text ≡ true → IsNumeralOf w text
parts_of w text h =
    let p =
    and_parts (ltb 0 (length (without_leading_sign text)))
    (all_ascii_digits (without_leading_sign text) && is_within w (signed_digits_value 10 text)) h in
    let q =
    and_parts (all_ascii_digits (without_leading_sign text)) (is_within w (signed_digits_value 10 text)) p.1
    in
    record {
      some = ltb-true _ _ p.0;
      digits = numerals.to (without_leading_sign text) q.0;
      fits = fits_within w _
          q.1;
    }

-- what `parse` gives is the number in the text
pub parsed : {E : Type 0} (w : Width) (text : List ℕ) (r : Result ℤ E) → ParsesSigned w 10 text r
    → result_ok r ≡ integer_in w text
unfolding integer_in
parsed w text (Ok z) h =
    let some : ltb 0 (length (without_leading_sign text)) ≡ true = lt-ltb _ _ h.0.0.0 in
    let digits : all_ascii_digits (without_leading_sign text) ≡ true =
    numerals.from (without_leading_sign text) h.0.0.1 in
    let fits : is_within w (signed_digits_value 10 text) ≡ true = within_is w _ h.0.1 in
    rw (some, digits, fits) (ap (λ (x : ℤ). Some x) h.1)
parsed w text (Err e) h =
    elim (chosen (numeral w text) (Some (signed_digits_value 10 text)) None (integer_in w text) refl) [
      | inl k ↦ let p = parts_of w text k.0 in absurd (h ((p.some, p.digits), p.fits))
      | inr k ↦ k.1
    ]

-- ---- a number is UTF-8

digits_ascii : (ds : List ℕ) → AllDigits 10 ds → (i : ℕ) → get_or ds i 0 < 128
digits_ascii [] h i = omega (arith, get_or_past {X = ℕ} [] i 0)
digits_ascii (c ∷ cs) h zero = omega (arith, digit_from_value c h.0)
digits_ascii (c ∷ cs) h (suc i) = digits_ascii cs h.1 i

behind_sign : (c : ℕ) (cs : List ℕ) → c < 128 → AllDigits 10 cs → (i : ℕ) → get_or (c ∷ cs) i 0 < 128
behind_sign c cs h k zero = h
behind_sign c cs h k (suc i) = digits_ascii cs k i

signed_ascii : (minus plus : Bool) (c : ℕ) (cs : List ℕ) → eqb c 45 ≡ minus → eqb c 43 ≡ plus
    → AllDigits 10 (cond minus (drop 1 (c ∷ cs)) (drop (cond plus 1 0) (c ∷ cs))) → (i : ℕ)
    → get_or (c ∷ cs) i 0 < 128
signed_ascii true plus c cs e f h i = behind_sign c cs (omega (arith, eqb-true _ _ e)) h i
signed_ascii false true c cs e f h i = behind_sign c cs (omega (arith, eqb-true _ _ f)) h i
signed_ascii false false c cs e f h i = digits_ascii (c ∷ cs) h i

numeral_ascii : (text : List ℕ) → AllDigits 10 (without_leading_sign text) → IsAscii text
numeral_ascii [] h = λ i. digits_ascii [] tt i
numeral_ascii (c ∷ cs) h = signed_ascii (eqb c 45) (eqb c 43) c cs refl refl h

pub not_a_number : (w : Width) (text : List ℕ) → (IsUtf8 text → ⊥) → None ≡ integer_in w text
unfolding integer_in
not_a_number w text h =
    elim (chosen (numeral w text) (Some (signed_digits_value 10 text)) None (integer_in w text) refl) [
      | inl k ↦ let p = parts_of w text k.0 in absurd (h (IsUtf8-from_ascii text (numeral_ascii text p.digits)))
      | inr k ↦ k.1
    ]

-- ---- the digits of a number are read as it

whole : (w : Width) (text : List ℕ)
    → (0 < length (without_leading_sign text)) × AllDigits 10 (without_leading_sign text)
    → SFits w (signed_digits_value 10 text) → numeral w text ≡ true
whole w text h fits =
    let some : ltb 0 (length (without_leading_sign text)) ≡ true = lt-ltb _ _ h.0 in
    let digits : all_ascii_digits (without_leading_sign text) ≡ true =
    numerals.from (without_leading_sign text) h.1 in
    let within : is_within w (signed_digits_value 10 text) ≡ true = within_is w _ fits in
    rw (some, digits, within) refl

parsed_by : (w : Width) (text : List ℕ) (b : Bool) → numeral w text ≡ b
    → (r : Result ℤ ℕ) × ParsesSigned w 10 text r
parsed_by w text true e =
    let p = parts_of w text e in
    (Ok (signed_digits_value 10 text), (((p.some, p.digits), p.fits), refl))
parsed_by w text false e =
    (Err 0, λ h. let t : numeral w text ≡ true = whole w text (h.0.0, h.0.1) h.1 in absurd cc)

pub digits_are_read : (w : Width) (z : ℤ) → SFits w z → mag z < 2 ^ 63 → integer_in w (signed_decimal z) ≡ Some z
digits_are_read w z fits small =
    let r = parsed_by w (signed_decimal z) (numeral w (signed_decimal z)) refl in
    sym (parsed w (signed_decimal z) r.0 r.1)
    ∙ ap result_ok (parse-signed_decimal w z (signed_decimal z) r.0 fits small refl r.1)
