-- Signed numbers of a script are read as std reads them.
use Rattle.std.proofs.Common.{◌≡◌, ℕ, ℤ, pos, negsuc, ◌<◌, ◌-◌, ◌^◌, true, ltb, ◌&&◌, List, length, Some, None, Result, Ok, Err, refl, ap, inl, inr}
use Rattle.std.specs.List.{list_all}
use Rattle.std.specs.Int.{w16, w32}
use Rattle.std.specs.Result.{result_ok}
use Rattle.std.specs.Char.{is_digit}
use Rattle.std.specs.Str.Parse.{without_leading_sign, signed_digits_value, ParsesSigned}
use Rattle.std.proofs.lemmas.Bool.{lt-ltb, ltb-true, and_parts}
use mir.Syntax.{Width}
use mir.Val.{SFits}
use Rattle.pgw_config.specs.Numbers.{reach}
use Rattle.pgw_config.proofs.DigitLaws.{chosen, digits_are, are_digits}
use Rattle.pgw_prog_script.specs.RequestLine.{signed_in_line}

-- by a width that holds the numbers that reach less far than this
parsed_by : {E : Type 0} (w : Width) (bits : ℕ) (text : List ℕ) (r : Result ℤ E)
    → ((z : ℤ) → SFits w z → reach z < 2 ^ (bits - 1)) → ((z : ℤ) → reach z < 2 ^ (bits - 1) → SFits w z)
    → ParsesSigned w 10 text r → result_ok r ≡ signed_in_line bits text
unfolding signed_in_line
parsed_by w bits text (Ok n) reach_of fits_of h =
    let digits = without_leading_sign text in
    let v = signed_digits_value 10 text in
    let some : ltb 0 (length digits) ≡ true = lt-ltb _ _ h.0.0.0 in
    let near : reach v < 2 ^ (bits - 1) = reach_of v h.0.1 in
    let fits : ltb (reach v) (2 ^ (bits - 1)) ≡ true = lt-ltb _ _ near in
    rw (some, are_digits 10 digits h.0.0.1, fits) (ap (λ (x : ℤ). Some x) h.1)
parsed_by w bits text (Err e) reach_of fits_of h =
    let digits = without_leading_sign text in
    let v = signed_digits_value 10 text in
    let rest = list_all (λ c. is_digit c 10) digits && ltb (reach v) (2 ^ (bits - 1)) in
    elim (chosen (ltb 0 (length digits) && rest) (Some v) None (signed_in_line bits text) refl) [
      | inl k ↦
          let p = and_parts (ltb 0 (length digits)) rest k.0 in
          let q = and_parts (list_all (λ c. is_digit c 10) digits) (ltb (reach v) (2 ^ (bits - 1))) p.1 in
          absurd (h ((ltb-true _ _ p.0, digits_are 10 digits q.0), fits_of v (ltb-true _ _ q.1)))
      | inr k ↦ k.1
    ]

reach_16 : (z : ℤ) → SFits w16 z → reach z < 2 ^ 15
reach_16 (pos n) f = f.sfits
reach_16 (negsuc n) f = f.sfits

fits_16 : (z : ℤ) → reach z < 2 ^ 15 → SFits w16 z
fits_16 (pos n) h = record { sfits = h }
fits_16 (negsuc n) h = record { sfits = h }

reach_32 : (z : ℤ) → SFits w32 z → reach z < 2 ^ 31
reach_32 (pos n) f = f.sfits
reach_32 (negsuc n) f = f.sfits

fits_32 : (z : ℤ) → reach z < 2 ^ 31 → SFits w32 z
fits_32 (pos n) h = record { sfits = h }
fits_32 (negsuc n) h = record { sfits = h }

pub parsed_16 : {E : Type 0} (text : List ℕ) (r : Result ℤ E) → ParsesSigned w16 10 text r
    → result_ok r ≡ signed_in_line 16 text
parsed_16 text r h = parsed_by w16 16 text r reach_16 fits_16 h

pub parsed_32 : {E : Type 0} (text : List ℕ) (r : Result ℤ E) → ParsesSigned w32 10 text r
    → result_ok r ≡ signed_in_line 32 text
parsed_32 text r h = parsed_by w32 32 text r reach_32 fits_32 h
