-- What was copied from the front of what was left.
use Rattle.std.proofs.Common.{◌≡◌, ◌<◌, ◌≤◌, ◌+◌, ◌-◌, ℕ, List, [], ◌++◌, length, take, drop, min, sym, ap, ◌∙◌, arith, length-drop}
use Rattle.std.proofs.lemmas.List.{length-take-le, take-append-drop, drop-drop, nil_from_length}

-- the bytes behind the front that was taken
pub taken : (bytes piece : List ℕ) (at n : ℕ) → piece ≡ take n (drop at bytes)
    → drop at bytes ≡ piece ++ drop (at + n) bytes
taken bytes piece at n is =
    sym (ap (λ (b : List ℕ). b ++ drop (at + n) bytes) is
    ∙ ap (λ (b : List ℕ). take n (drop at bytes) ++ b) (sym (drop-drop n at bytes))
    ∙ take-append-drop n (drop at bytes))

-- how many they are
pub taken_length : (bytes piece : List ℕ) (at n : ℕ) → piece ≡ take n (drop at bytes) → n ≤ length bytes - at
    → length piece ≡ n
taken_length bytes piece at n is le =
    ap length is ∙ length-take-le n (drop at bytes) (omega (arith, length-drop at bytes))

-- where there was room and nothing was taken, nothing is left
pub nothing_left : (bytes : List ℕ) (at n room cut : ℕ) → n ≡ min (min room cut) (length bytes - at) → 0 < room
    → 0 < cut → n ≡ 0 → drop at bytes ≡ []
nothing_left bytes at n room cut is some moves none =
    nil_from_length (drop at bytes) (omega (arith, length-drop at bytes))
