-- A text is cut by std as the definitions cut it.
use Rattle.std.proofs.Common.{◌≡◌, ◌≢◌, ◌<◌, ℕ, ◌==◌, not, List, ◌∷◌, ◌++◌, length, drop, get_or, Option, Some, None, Bor, option_map, refl, sym, ap, ◌∙◌, lit<}
use Rattle.std.specs.Option.{MatchOption, option_copied}
use Rattle.std.specs.List.{AllPass}
use Rattle.std.specs.Str.{NoCharPasses}
use Rattle.std.specs.Str.Pattern.{FindsTextPrefix, StripsPrefix, RFindsChar, SplitsAroundMatch}
use Rattle.std.proofs.lemmas.Bool.{ne_eqb, not_from_false}
use Rattle.std.proofs.lemmas.Grind.{get_or_default_zero}
use Rattle.std.proofs.lemmas.List.{take-append-drop, append-nil}
use Rattle.std.proofs.lemmas.List.Sums.{list_all-from_AllPass}
use Rattle.std.proofs.lemmas.Str.Pattern.{IsSplitOnceResult, split_parts, NoCharPasses-char, drop_at_char}
use Rattle.pgw_scram.specs.Attributes.{IsValue}
use Rattle.pgw_scram.specs.Readers.{cut, cut_last, behind_name}
use Rattle.pgw_scram.proofs.AttributeLaws.{cut_of, no_comma, cut_last_of, behind_name_of, behind_name_is}

value_from : (text : List ℕ) → ((i : ℕ) → i < length text → get_or text i 0 ≢ 44) → IsValue text
value_from text none =
    let all : AllPass (λ b. not (b == 44)) text =
    λ k d within. not_from_false _
    (ne_eqb (get_or text k d) 44 (λ is. none k within (sym (get_or_default_zero text k d within)
    ∙ is))) in
    list_all-from_AllPass (λ b. not (b == 44)) text all

-- at the first comma
pub cuts : (text : List ℕ) (r : Option (Bor (List ℕ) × Bor (List ℕ))) → IsSplitOnceResult 44 text r
    → MatchOption r (cut text ≡ (text, None)) (λ x. cut text ≡ (x.0.now, Some x.1.now))
cuts text None h =
    ap cut (sym (append-nil text)) ∙ cut_of text None (value_from text (split_parts 44 text None h (lit< tt)))
cuts text (Some x) h =
    let parts = split_parts 44 text (Some x) h (lit< tt) in
    ap cut parts.0 ∙ cut_of x.0.now (Some x.1.now) (value_from x.0.now parts.1)

no_char : (text : List ℕ) → NoCharPasses (λ d. d == 44) text → IsValue text
no_char text none = value_from text (λ i within. NoCharPasses-char 44 text i none (lit< tt) within)

-- at the last comma
pub cuts_last : (text : List ℕ) (r : Option (Bor (List ℕ) × Bor (List ℕ)))
    → MatchOption r (RFindsChar 44 text None) (λ x. SplitsAroundMatch (RFindsChar 44) text x.0.now x.1.now)
    → option_map (λ x. (x.0.now, x.1.now)) r ≡ cut_last text
cuts_last text None h = sym (no_comma text (no_char text h))
cuts_last text (Some x) (i, j, (none, at), front, back, ordered, length_front, length_back) =
    let comma : drop i text ≡ 44 ∷ drop j text = drop_at_char 44 text i j at (lit< tt) in
    let whole : text ≡ x.0.now ++ 44 ∷ x.1.now = rw (front, back, ← comma) (sym (take-append-drop i text)) in
    let value : IsValue x.1.now = rw back (no_char (drop j text) none) in
    sym (ap cut_last whole ∙ cut_last_of x.0.now x.1.now value)

lacks : (name text : List ℕ) (found : Option (List ℕ)) → behind_name name text ≡ found
    → ((rest : List ℕ) → text ≢ name ++ rest) → behind_name name text ≡ None
lacks name text None e none = e
lacks name text (Some rest) e none = absurd (none rest (behind_name_is name text rest e))

-- behind a name
pub strips : (name text : List ℕ) (r : Option (Bor (List ℕ)))
    → MatchOption r (FindsTextPrefix name text None) (λ x. StripsPrefix (FindsTextPrefix name) text x.now)
    → option_copied r ≡ behind_name name text
strips name text None h = sym (lacks name text (behind_name name text) refl h)
strips name text (Some x) (n, (is_length, whole, boundary), rest, lengths) =
    let same : text ≡ name ++ x.now = rw rest whole in
    sym (ap (behind_name name) same ∙ behind_name_of name x.now)
