-- The first line of a text, and those behind it.
use Rattle.std.proofs.Common.{◌≡◌, ℕ, suc, ◌+◌, ◌<◌, ◌≤◌, List, [], ◌∷◌, Bool, true, false, ◌==◌, nat_lt, cond, length, take, drop, position, Some, None, Ok, Err, if◌then◌else◌, refl, arith}
use Rattle.std.specs.List.{slice_split, position_or_len}
use Rattle.std.proofs.lemmas.List.Splits.{slice_split_first}
use Rattle.std.proofs.lemmas.Bool.Decides.{nat_tests}
use Rattle.pgw_prog_script.specs.Form.{Form, lines_of, but_empty_end, read_lines}

abbrev feed : ℕ → Bool
feed b = b == 10

whole_by : (x : ℕ) (xs : List ℕ) (t : Bool) → (x == 10) ≡ t
    → (length xs ≤ position_or_len feed xs → slice_split feed xs ≡ xs ∷ [])
    → length (x ∷ xs) ≤ position_or_len feed (x ∷ xs) → slice_split feed (x ∷ xs) ≡ (x ∷ xs) ∷ []
whole_by x xs true e ih h = let h' : suc (length xs) ≤ 0 = rw e at h in absurd (omega (arith, h'))
whole_by x xs false e ih h =
    let h' : suc (length xs) ≤ 1 + position_or_len feed xs = rw e at h in
    let le : length xs ≤ position_or_len feed xs = omega (arith, h') in
    rw (e, ih le) refl

-- where no line feed stands, the text is the one part
whole : (xs : List ℕ) → length xs ≤ position_or_len feed xs → slice_split feed xs ≡ xs ∷ []
whole [] h = refl
whole (x ∷ xs) h = whole_by x xs (x == 10) refl (whole xs) h

part_by : (x : ℕ) (xs : List ℕ) (t : Bool) → (x == 10) ≡ t
    → ((y : List ℕ) × (ys : List (List ℕ)) × (slice_split feed xs ≡ y ∷ ys))
    → (y : List ℕ) × (ys : List (List ℕ)) × (slice_split feed (x ∷ xs) ≡ y ∷ ys)
part_by x xs true e some = ([], slice_split feed xs, rw e refl)
part_by x xs false e some = (x ∷ some.0, some.1, rw (e, some.2) refl)

some_part : (xs : List ℕ) → (y : List ℕ) × (ys : List (List ℕ)) × (slice_split feed xs ≡ y ∷ ys)
some_part [] = ([], [], refl)
some_part (x ∷ xs) = part_by x xs (x == 10) refl (some_part xs)

keeps : (l m : List ℕ) (more : List (List ℕ)) → but_empty_end (l ∷ m ∷ more) ≡ l ∷ but_empty_end (m ∷ more)
keeps [] m more = refl
keeps (b ∷ bs) m more = refl

keeps_parts : (l : List ℕ) (parts : List (List ℕ)) → ((y : List ℕ) × (ys : List (List ℕ)) × (parts ≡ y ∷ ys))
    → but_empty_end (l ∷ parts) ≡ l ∷ but_empty_end parts
keeps_parts l parts some = rw some.2 (keeps l some.0 some.1)

place_none : (n k : ℕ) (t : Bool) → nat_lt n k ≡ t → cond t (Some n) None ≡ None → k ≤ n
place_none n k true e h = cc
place_none n k false e h = grind (arith, nat_tests, e)

place_some : (n k at : ℕ) (t : Bool) → nat_lt n k ≡ t → cond t (Some n) None ≡ Some at → (n < k) × (n ≡ at)
place_some n k at true e h = (grind (arith, nat_tests, e), cc)
place_some n k at false e h = cc

kept_whole : (xs : List ℕ) → 0 < length xs → but_empty_end (xs ∷ []) ≡ xs ∷ []
kept_whole [] h = absurd (omega arith)
kept_whole (x ∷ xs) h = refl

pub last_line : (xs : List ℕ) → position (λ b. b == 10) xs ≡ None → 0 < length xs → lines_of xs ≡ xs ∷ lines_of []
unfolding lines_of
last_line xs h some =
    rw (whole xs (place_none (position_or_len feed xs) (length xs) (nat_lt (position_or_len feed xs) (length xs))
    refl h)) (kept_whole xs some)

pub cut_line : (xs : List ℕ) (at : ℕ) → position (λ b. b == 10) xs ≡ Some at
    → lines_of xs ≡ take at xs ∷ lines_of (drop (at + 1) xs)
unfolding lines_of
cut_line xs at h =
    let p =
    place_some (position_or_len feed xs) (length xs) at (nat_lt (position_or_len feed xs) (length xs)) refl h
    in
    let cut = rw p.1 at (slice_split_first feed xs 0 p.0) in
    rw cut (keeps_parts (take at xs) (slice_split feed (drop (at + 1) xs)) (some_part (drop (at + 1) xs)))

no_lines : (rest : List ℕ) → length rest ≤ 0 → lines_of rest ≡ []
unfolding lines_of
no_lines [] h = refl
no_lines (x ∷ xs) h = absurd (omega (arith, h))

pub at_end : {L P S : Type 0} (form : Form L P S) (p : P) (s : S) (n : ℕ) (rest : List ℕ) (t : Bool)
    → length rest ≤ 0 → t ≡ form.may_end p
    → read_lines form p s n (lines_of rest) ≡ (if t then Ok s else Err (n + 1))
at_end form p s n rest t h e = rw (no_lines rest h, e) refl
