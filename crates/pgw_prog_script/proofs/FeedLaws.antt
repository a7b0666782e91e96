-- The first line feed of a text, as a search for a byte finds it.
use Rattle.std.proofs.Common.{◌≡◌, ℕ, List, Bool, true, false, ◌==◌, nat_lt, cond, length, position, Option, Some, None, refl, arith}
use Rattle.std.specs.List.{position_or_len}
use Rattle.std.proofs.lemmas.Bool.Decides.{nat_tests}
use Rattle.std.proofs.lemmas.List.Sums.{position_or_len_is}
use Rattle.memchr.specs.Find.{IsFirstByte, is_byte}

abbrev feed : ℕ → Bool
feed b = b == 10

placed : (xs : List ℕ) (i : ℕ) (b : Bool) → position_or_len feed xs ≡ i → nat_lt i (length xs) ≡ b
    → cond b (Some i) None ≡ position feed xs
placed xs i b at is = rw at (rw is refl)

unless : (b : Bool) → ¬ (b ≡ true) → b ≡ false
unless true not_so = absurd (not_so refl)
unless false not_so = refl

pub first_feed : (xs : List ℕ) (r : Option ℕ) → IsFirstByte (is_byte 10) xs r → r ≡ position (λ b. b == 10) xs
first_feed xs None none =
    placed xs (length xs) false
    (position_or_len_is feed xs (length xs) 0 (omega arith) (λ k l. unless _ (none k (omega arith) l))
    (λ l. absurd (omega (arith, l)))) (grind (arith, nat_tests))
first_feed xs (Some i) first =
    let high = first.0.high in
    placed xs i true (position_or_len_is feed xs i 0 (omega (arith, high))
    (λ k l. unless _ (first.0.before k (omega arith) l)) (λ l. first.1)) (grind (arith, nat_tests, high))
