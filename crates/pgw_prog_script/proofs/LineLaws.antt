-- Numbers are ASCII, and are read as std reads them.
use Rattle.std.proofs.Common.{◌≡◌, ◌∙◌, ℕ, zero, suc, ◌^◌, ◌<◌, List, [], ◌∷◌, Bool, true, false, not, ◌==◌, ◌&&◌, nat_lt, length, drop, Option, Some, None, Result, Ok, Err, refl, sym, ap, arith, if◌then◌else◌, cond}
use Rattle.std.specs.List.{slice_index}
use Rattle.std.specs.Str.{IsAscii, IsUtf8, is_utf8, all_ascii_digits}
use Rattle.std.specs.Str.Parse.{without_leading_plus, digits_value, ParsesUnsigned, IsNumeral}
use Rattle.std.proofs.lemmas.Str.{IsUtf8-from_ascii, IsUtf8-from_is_utf8, is_utf8-from_IsUtf8}
use Rattle.std.proofs.lemmas.Str.Parse.{IsNumeralModel, numerals_by_value, tells_all_ascii_digits}
use Rattle.std.proofs.lemmas.Bool.Decides.{nat_tests}
use Rattle.std.proofs.lemmas.Fmt.{IsAscii-from_digits}
use Rattle.std.specs.Result.{MatchResult, result_ok}
use Rattle.pgw_prog_script.specs.Line.{script_number}
use Rattle.pgw_prog_script.specs.RequestLine.{text_in}

own : IsNumeralModel (λ ds. all_ascii_digits ds ≡ true) (digits_value 10)
own = numerals_by_value (λ ds. all_ascii_digits ds ≡ true) tells_all_ascii_digits

pub number_parsed : (bs : List ℕ) (n : ℕ) → IsNumeral 10 (without_leading_plus bs)
    → digits_value 10 (without_leading_plus bs) < 2 ^ 64 → n ≡ digits_value 10 (without_leading_plus bs)
    → script_number bs ≡ Some n
unfolding script_number
number_parsed bs n h small is =
    let digits : all_ascii_digits (without_leading_plus bs) ≡ true = own.from (without_leading_plus bs) h.1 in
    let some : (length (without_leading_plus bs) == 0) ≡ false = grind (arith, nat_tests, h.0) in
    let fits : nat_lt (digits_value 10 (without_leading_plus bs)) (2 ^ 64) ≡ true =
    grind (arith, nat_tests, small) in
    rw (some, digits, fits, is) refl

fit_unless : (P : Type 0) (b : Bool) (v : ℕ) → nat_lt v (2 ^ 64) ≡ b → ¬ P → (v < 2 ^ 64 → P)
    → (if b then Some v else None) ≡ None
fit_unless P false v e not_so make = refl
fit_unless P true v e not_so make = absurd (not_so (make (grind (arith, nat_tests, e))))

none_unless : (P : Type 0) (n : ℕ) (z d : Bool) (v : ℕ) → (n == 0) ≡ z → ¬ P → (0 < n → d ≡ true → v < 2 ^ 64 → P)
    → (if not z && d && nat_lt v (2 ^ 64) then Some v else None) ≡ None
none_unless P n true d v e not_so make = refl
none_unless P n false false v e not_so make = refl
none_unless P n false true v e not_so make =
    fit_unless P (nat_lt v (2 ^ 64)) v refl not_so (λ fits. make (grind (arith, nat_tests, e)) refl fits)

pub number_none : (bs : List ℕ)
    → ¬ (IsNumeral 10 (without_leading_plus bs) × (digits_value 10 (without_leading_plus bs) < 2 ^ 64))
    → script_number bs ≡ None
unfolding script_number
number_none bs not_so =
    let ds = without_leading_plus bs in
    let P = IsNumeral 10 ds × (digits_value 10 ds < 2 ^ 64) in
    none_unless P (length ds) (length ds == 0) (all_ascii_digits ds) (digits_value 10 ds) refl not_so
    (λ some digits fits. ((some, own.to ds digits), fits))

pub number_from : {E : Type 0} (bs : List ℕ) (r : Result ℕ E) (o : Option ℕ) → ParsesUnsigned 64 10 bs r
    → MatchResult r (λ n. o ≡ Some n) (λ e. o ≡ None) → o ≡ script_number bs
number_from bs (Ok n) o h is = is ∙ sym (number_parsed bs n h.0.0 h.0.1 h.1)
number_from bs (Err e) o h is = is ∙ sym (number_none bs h)

plus_by : (b : ℕ) (bs : List ℕ) (t : Bool) → (b == 43) ≡ t → IsAscii (drop (cond t 1 0) (b ∷ bs)) → (i : ℕ)
    → slice_index (b ∷ bs) i < 128
plus_by b bs true e h zero = grind (arith, nat_tests, e)
plus_by b bs true e h (suc i) = h i
plus_by b bs false e h i = h i

plus_ascii : (bs : List ℕ) → IsAscii (without_leading_plus bs) → IsAscii bs
plus_ascii [] h = h
plus_ascii (b ∷ bs) h = plus_by b bs (b == 43) refl h

pub number_utf8 : (bs : List ℕ) → ¬ (IsUtf8 bs) → script_number bs ≡ None
number_utf8 bs not_so =
    number_none bs (λ h. not_so (IsUtf8-from_ascii bs
    (plus_ascii bs (IsAscii-from_digits (without_leading_plus bs) h.0.1))))

pub text_is : (bs t : List ℕ) → t ≡ bs → IsUtf8 bs → Some t ≡ text_in bs
unfolding text_in
text_is bs t e h = rw (is_utf8-from_IsUtf8 bs h) (ap (λ (x : List ℕ). Some x) e)

none_utf8 : (bs : List ℕ) (b : Bool) → is_utf8 bs ≡ b → ¬ (IsUtf8 bs) → None ≡ (if b then Some bs else None)
none_utf8 bs false e not_so = refl
none_utf8 bs true e not_so = absurd (not_so (IsUtf8-from_is_utf8 bs e))

pub text_none : (bs : List ℕ) → ¬ (IsUtf8 bs) → None ≡ text_in bs
unfolding text_in
text_none bs not_so = none_utf8 bs (is_utf8 bs) refl not_so

pub ok_is : {E : Type 0} (r : Result ℕ E) → MatchResult r (λ n. result_ok r ≡ Some n) (λ e. result_ok r ≡ None)
ok_is (Ok n) = refl
ok_is (Err e) = refl
