-- The pieces of a text, one after the other.
use Rattle.std.proofs.Common.{◌≡◌, ℕ, suc, ◌+◌, ◌<◌, ◌==◌, Bool, true, false, not, cond, List, [], ◌∷◌, ◌++◌, length, refl, sym, ap, ◌∙◌, arith}
use Rattle.std.specs.List.{slice_split, onto_first, position_or_len, before_first, after_first}
use Rattle.std.proofs.lemmas.List.{append_assoc}
use Rattle.std.proofs.lemmas.List.Splits.{slice_split_first}
use Rattle.pgw_types.specs.Marks.{pieces_at}

by_first : (p : ℕ → Bool) (x : ℕ) (xs : List ℕ) (b : Bool)
    → cond (not b) (1 + position_or_len p xs) 0 ≡ suc (length xs)
    → (position_or_len p xs ≡ length xs → slice_split p xs ≡ xs ∷ [])
    → cond b ([] ∷ slice_split p xs) (onto_first x (slice_split p xs)) ≡ (x ∷ xs) ∷ []
by_first p x xs true e again = absurd (omega (arith, e))
by_first p x xs false e again = let k : position_or_len p xs ≡ length xs = omega (arith, e) in rw (again k) refl

no_mark : (p : ℕ → Bool) (xs : List ℕ) → position_or_len p xs ≡ length xs → slice_split p xs ≡ xs ∷ []
no_mark p [] e = refl
no_mark p (x ∷ xs) e = by_first p x xs (p x) e (λ k. no_mark p xs k)

pub goes_on : (mark : ℕ) (text piece after : List ℕ) (all new : List (List ℕ)) (copy : List ℕ)
    (whole : List (List ℕ))
    → (piece ≡ before_first (λ b. b == mark) text) × (after ≡ after_first (λ b. b == mark) text)
    × (position_or_len (λ b. b == mark) text < length text)
    → new ≡ all ++ copy ∷ [] → copy ≡ piece → all ++ pieces_at mark text ≡ whole
    → new ++ pieces_at mark after ≡ whole
goes_on mark text piece after all new copy whole cut n e i =
    let first : pieces_at mark text ≡ piece ∷ pieces_at mark after =
    rw (cut.0, cut.1) (slice_split_first (λ b. b == mark) text 0 cut.2) in
    rw (n, e) (append_assoc all (piece ∷ []) (pieces_at mark after)
    ∙ ap (λ (x : List (List ℕ)). all ++ x) (sym first) ∙ i)

pub ends : (mark : ℕ) (text : List ℕ) (all new : List (List ℕ)) (copy : List ℕ) (whole : List (List ℕ))
    → position_or_len (λ b. b == mark) text ≡ length text → new ≡ all ++ copy ∷ [] → copy ≡ text
    → all ++ pieces_at mark text ≡ whole → new ≡ whole
ends mark text all new copy whole none n e i =
    rw (n, e) (ap (λ (x : List (List ℕ)). all ++ x) (sym (no_mark (λ b. b == mark) text none)) ∙ i)
