-- A text is cut in one way at its first mark.
use Rattle.std.proofs.Common.{◌≡◌, ◌≢◌, ◌<◌, ℕ, ◌==◌, true, not, List, [], ◌∷◌, ◌++◌, length, get_or, Option, Some, None, Bor, option_map, refl, sym, ap, ◌∙◌}
use Rattle.std.specs.List.{AllPass, list_all}
use Rattle.std.proofs.lemmas.Bool.{and_parts, and_from, ne_eqb, not_from_false, not-true, eq-eqb}
use Rattle.std.proofs.lemmas.Grind.{get_or_default_zero}
use Rattle.std.proofs.lemmas.List.Sums.{list_all-from_AllPass}
use Rattle.std.proofs.lemmas.List.Folds.{list_all-append}
use Rattle.std.proofs.lemmas.Str.Pattern.{IsSplitOnceResult, split_parts}
use Rattle.pgw_secrets.specs.Found.{Lacks, CutAt}

lacks_from : (mark : ℕ) (text : List ℕ) → ((i : ℕ) → i < length text → get_or text i 0 ≢ mark) → Lacks mark text
lacks_from mark text none =
    let all : AllPass (λ b. not (b == mark)) text =
    λ k d within. not_from_false _
    (ne_eqb (get_or text k d) mark (λ is. none k within (sym (get_or_default_zero text k d within)
    ∙ is))) in
    list_all-from_AllPass (λ b. not (b == mark)) text all

-- std cuts at the first mark
pub cuts : (mark : ℕ) (text : List ℕ) (r : Option (Bor (List ℕ) × Bor (List ℕ))) → IsSplitOnceResult mark text r
    → mark < 128 → CutAt mark text (option_map (λ x. (x.0.now, x.1.now)) r)
cuts mark text None h low = lacks_from mark text (split_parts mark text None h low)
cuts mark text (Some x) h low =
    let parts = split_parts mark text (Some x) h low in
    (parts.0, lacks_from mark x.0.now parts.1)

pub lacks_append : (mark : ℕ) (xs ys : List ℕ) → Lacks mark xs → Lacks mark ys → Lacks mark (xs ++ ys)
lacks_append mark xs ys h k = list_all-append (λ b. not (b == mark)) xs ys ∙ and_from _ _ h k

not_itself : (mark : ℕ) → not (mark == mark) ≡ true → ⊥
not_itself mark h =
    let same : (mark == mark) ≡ true = eq-eqb mark mark refl in let other = not-true (mark == mark) h in cc

-- behind texts without the mark
pub same_cut : (mark : ℕ) (a b x y : List ℕ) → Lacks mark a → Lacks mark b → a ++ mark ∷ x ≡ b ++ mark ∷ y
    → (a ≡ b) × (x ≡ y)
same_cut mark [] [] x y la lb e = (refl, cc)
same_cut mark [] (c ∷ b) x y la lb e =
    let q = and_parts (not (c == mark)) (list_all (λ b. not (b == mark)) b) lb in
    let same : mark ≡ c = cc in
    absurd (not_itself mark (ap (λ n. not (n == mark)) same ∙ q.0))
same_cut mark (c ∷ a) [] x y la lb e =
    let q = and_parts (not (c == mark)) (list_all (λ b. not (b == mark)) a) la in
    let same : mark ≡ c = cc in
    absurd (not_itself mark (ap (λ n. not (n == mark)) same ∙ q.0))
same_cut mark (c ∷ a) (d ∷ b) x y la lb e =
    let p = and_parts (not (c == mark)) (list_all (λ b. not (b == mark)) a) la in
    let q = and_parts (not (d == mark)) (list_all (λ b. not (b == mark)) b) lb in
    let tails : a ++ mark ∷ x ≡ b ++ mark ∷ y = cc in
    let heads : c ≡ d = cc in
    let rest = same_cut mark a b x y p.1 q.1 tails in
    let first : a ≡ b = rest.0 in
    (cc, rest.1)

-- a text without the mark is not cut
pub not_cut : (mark : ℕ) (text a x : List ℕ) → Lacks mark text → text ≡ a ++ mark ∷ x → ⊥
not_cut mark [] [] x h e = cc
not_cut mark [] (d ∷ a) x h e = cc
not_cut mark (c ∷ text) [] x h e =
    let q = and_parts (not (c == mark)) (list_all (λ b. not (b == mark)) text) h in
    let same : mark ≡ c = cc in
    not_itself mark (ap (λ n. not (n == mark)) same ∙ q.0)
not_cut mark (c ∷ text) (d ∷ a) x h e =
    let q = and_parts (not (c == mark)) (list_all (λ b. not (b == mark)) text) h in
    let tails : text ≡ a ++ mark ∷ x = cc in
    not_cut mark text a x q.1 tails
