-- Signed numbers are read as std reads them.
use Rattle.std.proofs.Common.{◌≡◌, ℕ, ℤ, pos, negsuc, ◌<◌, ◌^◌, true, ltb, ◌&&◌, List, length, Some, None, Result, Ok, Err, refl, ap, inl, inr}
use Rattle.std.specs.List.{list_all}
use Rattle.std.specs.Int.{w64}
use Rattle.std.specs.Result.{result_ok}
use Rattle.std.specs.Char.{is_digit}
use Rattle.std.specs.Str.Parse.{without_leading_sign, signed_digits_value, ParsesSigned}
use Rattle.std.proofs.lemmas.Bool.{lt-ltb, ltb-true, and_parts}
use mir.Val.{SFits}
use Rattle.pgw_config.specs.Numbers.{signed_in, reach}
use Rattle.pgw_config.proofs.DigitLaws.{chosen, digits_are, are_digits}

reach_of : (z : ℤ) → SFits w64 z → reach z < 2 ^ 63
reach_of (pos n) f = f.sfits
reach_of (negsuc n) f = f.sfits

fits_of : (z : ℤ) → reach z < 2 ^ 63 → SFits w64 z
fits_of (pos n) h = record { sfits = h }
fits_of (negsuc n) h = record { sfits = h }

pub parsed : {E : Type 0} (text : List ℕ) (r : Result ℤ E) → ParsesSigned w64 10 text r
    → result_ok r ≡ signed_in text
unfolding signed_in
parsed text (Ok n) h =
    let digits = without_leading_sign text in
    let v = signed_digits_value 10 text in
    let some : ltb 0 (length digits) ≡ true = lt-ltb _ _ h.0.0.0 in
    let near : reach v < 2 ^ 63 = reach_of v h.0.1 in
    let fits : ltb (reach v) (2 ^ 63) ≡ true = lt-ltb _ _ near in
    rw (some, are_digits 10 digits h.0.0.1, fits) (ap (λ (x : ℤ). Some x) h.1)
parsed text (Err e) h =
    let digits = without_leading_sign text in
    let v = signed_digits_value 10 text in
    let rest = list_all (λ c. is_digit c 10) digits && ltb (reach v) (2 ^ 63) in
    elim (chosen (ltb 0 (length digits) && rest) (Some v) None (signed_in text) refl) [
      | inl k ↦
          let p = and_parts (ltb 0 (length digits)) rest k.0 in
          let q = and_parts (list_all (λ c. is_digit c 10) digits) (ltb (reach v) (2 ^ 63)) p.1 in
          let near : reach v < 2 ^ 63 = ltb-true _ _ q.1 in
          absurd (h ((ltb-true _ _ p.0, digits_are 10 digits q.0), fits_of v near))
      | inr k ↦ k.1
    ]
