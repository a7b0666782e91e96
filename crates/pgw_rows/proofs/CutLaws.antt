-- Values stand where their lengths say.
use Rattle.std.proofs.Common.{◌≡◌, ℕ, ℤ, pos, negsuc, ◌+◌, ◌-◌, ◌<◌, ◌≤◌, ltb, false, true, List, length, take, drop, nat_abs, Some, None, Ok, refl, sym, ap, ◌∙◌, arith}
use Rattle.std.specs.Prelude.{slice_range}
use Rattle.std.specs.Int.{w32}
use Rattle.std.proofs.lemmas.Bool.{lt-ltb, le-ltb, ltb-true}
use Rattle.std.proofs.lemmas.List.{drop-drop, drop-take, take-take}
use Rattle.std.proofs.lemmas.Int.{to_z-of_z}
use lib.Signed.{lt_z}
use mir.Val.{SFits, to_z, of_z}
use Rattle.pgw_wire.specs.Reading.{int_at, octets_at}
use Rattle.pgw_wire.specs.Values.{nullable_at}
use Rattle.pgw_rows.specs.Rows.{value_at}

-- a length that is not negative is a count
pub is_count : (z : ℤ) → SFits w32 z → lt_z (to_z w32 (of_z w32 z)) (pos 0) ≡ false
    → z ≡ pos (nat_abs (to_z w32 (of_z w32 z)))
is_count (pos n) fits h = sym (ap (λ (z : ℤ). pos (nat_abs z)) (to_z-of_z w32 (pos n) fits))
is_count (negsuc n) fits h =
    let k : lt_z (negsuc n) (pos 0) ≡ false = rw (to_z-of_z w32 (negsuc n) fits) at h in absurd cc

-- ---- the value behind its length

pub value_null : (row : List ℕ) (at : ℕ) (z : ℤ) → SFits w32 z → lt_z (to_z w32 (of_z w32 z)) (pos 0) ≡ true
    → int_at w32 (drop at row) ≡ Ok (z, drop 4 (drop at row))
    → value_at (drop at row) ≡ Some (None, drop (at + 4) row)
unfolding nullable_at
value_null row at (pos n) fits h e =
    let k : ltb n 0 ≡ true = rw (to_z-of_z w32 (pos n) fits) at h in absurd (omega (arith, ltb-true n 0 k))
value_null row at (negsuc n) fits h e = rw (e, drop-drop) refl

pub value_short : (row : List ℕ) (at n : ℕ) → int_at w32 (drop at row) ≡ Ok (pos n, drop 4 (drop at row))
    → length (drop 4 (drop at row)) < n → value_at (drop at row) ≡ None
unfolding nullable_at octets_at
value_short row at n e h = rw (e, lt-ltb _ _ h) refl

pub value_whole : (row : List ℕ) (at n : ℕ) → int_at w32 (drop at row) ≡ Ok (pos n, drop 4 (drop at row))
    → n ≤ length (drop 4 (drop at row))
    → value_at (drop at row) ≡ Some (Some (slice_range row (at + 4) (at + 4 + n)), drop (at + 4 + n) row)
unfolding nullable_at octets_at
value_whole row at n e h =
    let cut : take n (drop 4 (drop at row)) ≡ slice_range row (at + 4) (at + 4 + n) =
    rw drop-drop (ap (λ (k : ℕ). take k (drop (at + 4) row)) (omega arith)) in
    let rest : drop n (drop 4 (drop at row)) ≡ drop (at + 4 + n) row =
    rw (drop-drop, drop-drop) (ap (λ (k : ℕ). drop k row) (omega arith)) in
    rw (e, le-ltb _ _ h, cut, rest) refl

-- ---- rows that are the front of some bytes

pub cut_within : (bytes : List ℕ) (end from to : ℕ) → from ≤ to → to ≤ end
    → slice_range (take end bytes) from to ≡ slice_range bytes from to
cut_within bytes end from to ordered within =
    let parts : end ≡ from + (end - from) = omega (arith, ordered, within) in
    ap (λ (k : ℕ). take (to - from) (drop from (take k bytes))) parts
    ∙ ap (take (to - from)) (drop-take from (end - from) bytes)
    ∙ take-take (to - from) (end - from) (drop from bytes) (omega (arith, ordered, within))

-- the bytes behind a place of a front
pub front_from : (bytes : List ℕ) (from to : ℕ) → from ≤ to
    → drop from (take to bytes) ≡ slice_range bytes from to
front_from bytes from to ordered =
    ap (λ (k : ℕ). drop from (take k bytes)) (omega (arith, ordered)) ∙ drop-take from (to - from) bytes
