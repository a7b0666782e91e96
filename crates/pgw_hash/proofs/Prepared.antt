-- A text prepared is a text.
use Rattle.std.proofs.Common.{◌≡◌, ◌⊎◌, inl, inr, ℕ, ◌+◌, ◌-◌, ◌/◌, ◌%◌, ◌<◌, ◌==◌, Bool, true, false, ◌&&◌, List, [], ◌∷◌, Option, Some, None, chars, encode_utf8_all, refl, sym, ap, ◌∙◌, arith}
use Rattle.std.specs.List.{list_all, list_any}
use Rattle.std.specs.Str.{IsUtf8}
use Rattle.std.specs.Char.{is_ascii_control}
use Rattle.std.specs.Prelude.{if◌then◌else◌}
use Rattle.std.proofs.Math.Utf8.{scalar, scalars, low_scalar}
use Rattle.std.proofs.lemmas.Bool.{cases_Bool}
use Rattle.std.proofs.lemmas.Str.{scalars-chars}
use Rattle.ucd_table.proofs.Computing.{tables}
use Rattle.ucd_table.proofs.RangedFacts.{points_ok, values_ok, Stepped-at_points, Stepped-at_values}
use Rattle.ucd_normal.specs.declared.forms.Form.TheVariants.{Nfkc}
use Rattle.ucd_normal.specs.Composition.{composite}
use Rattle.ucd_normal.specs.Decomposition.{decomposition, if_canonical, or_itself, compatibility_decomposition}
use Rattle.ucd_normal.proofs.CompositionLemmas.{is_empty, composite-IsCompositeOf}
use Rattle.ucd_normal.proofs.DecompositionLemmas.{decomposition_stepped, compatibility_decomposition_stepped}
use Rattle.unicode_normalization.specs.Compose.{or_else, primary_composite}
use Rattle.unicode_normalization.specs.Decompose.{decompose}
use Rattle.unicode_normalization.specs.Forms.{nfkc}
use Rattle.unicode_normalization.specs.Hangul.{is_syllable, decompose_hangul, compose_hangul}
use Rattle.unicode_normalization.proofs.HangulLemmas.{is_syllable-true, IsLv, IsLvt, compose_hangul-some}
use Rattle.unicode_normalization.proofs.KeptLemmas.{list_all-normalize}
use Rattle.pgw_hash.specs.Saslprep.{saslprep}

-- ---- the tables hold characters alone

mapped : (c : ℕ) → list_all scalar (compatibility_decomposition c) ≡ true
unfolding tables values_ok compatibility_decomposition_stepped
mapped = Stepped-at_values compatibility_decomposition compatibility_decomposition_stepped (list_all scalar) refl

mapping : (p : ℕ) → is_empty (if_canonical (decomposition p)) ≡ false → scalar p ≡ true
unfolding tables points_ok decomposition_stepped
mapping =
    Stepped-at_points decomposition decomposition_stepped (λ e. is_empty (if_canonical e)) (λ p e. scalar p) refl

-- ---- a decomposition

itself : (c : ℕ) (string : List ℕ) → scalar c ≡ true → list_all scalar string ≡ true
    → list_all scalar (or_itself c string) ≡ true
itself c [] one all = rw one refl
itself c (x ∷ xs) one all = all

two_or_three : (b : Bool) (l v t : ℕ) → scalar l ≡ true → scalar v ≡ true → scalar t ≡ true
    → list_all scalar (if b then l ∷ v ∷ [] else l ∷ v ∷ t ∷ []) ≡ true
two_or_three true l v t hl hv ht = rw (hl, hv) refl
two_or_three false l v t hl hv ht = rw (hl, hv, ht) refl

hangul : (s : ℕ) → is_syllable s ≡ true → list_all scalar (decompose_hangul s) ≡ true
unfolding decompose_hangul
hangul s is =
    let range = is_syllable-true s is in
    let i = s - 0xAC00 in
    let last : i < 11172 = omega (arith, range.0, range.1) in
    let lead : 0x1100 + i / 588 < 55296 = omega (arith, last) in
    let vowel : 0x1161 + i % 588 / 28 < 55296 = omega (arith, last) in
    let trail : 0x11A7 + i % 28 < 55296 = omega (arith, last) in
    two_or_three (i % 28 == 0) (0x1100 + i / 588) (0x1161 + i % 588 / 28) (0x11A7 + i % 28) (low_scalar _ lead)
    (low_scalar _ vowel) (low_scalar _ trail)

decomposes : (c : ℕ) → scalar c ≡ true → list_all scalar (decompose Nfkc c) ≡ true
unfolding decompose
decomposes c one = elim (cases_Bool (is_syllable c)) [
  | inl is ↦ rw is (hangul c is)
  | inr other ↦ rw other (itself c (compatibility_decomposition c) one (mapped c))
]

-- ---- a composite

composes_hangul : (a b p : ℕ) → IsLv a b p ⊎ IsLvt a b p → scalar p ≡ true
composes_hangul a b p (inl h) =
    low_scalar p (omega (arith, h.leading.0, h.leading.1, h.vowel.0, h.vowel.1, h.value))
composes_hangul a b p (inr h) = low_scalar p (omega
    (arith, h.syllable.0, h.syllable.1, h.trailing.0, h.trailing.1, h.value))

by_table : (a b p : ℕ) → composite a b ≡ Some p → scalar p ≡ true
by_table a b p is =
    let of = composite-IsCompositeOf a b p is in
    mapping p (ap is_empty of.mapping)

either_way : (a b p : ℕ) (o : Option ℕ) → compose_hangul a b ≡ o → or_else o (composite a b) ≡ Some p
    → scalar p ≡ true
either_way a b p None none is = by_table a b p is
either_way a b p (Some q) some is = let same : q ≡ p = cc in composes_hangul a b p
    (compose_hangul-some a b p (some ∙ ap (λ (n : ℕ). Some n) same))

composes : (a b p : ℕ) → scalar a ≡ true → scalar b ≡ true → primary_composite a b ≡ Some p → scalar p ≡ true
unfolding primary_composite
composes a b p one two is = either_way a b p (compose_hangul a b) refl is

-- ---- a text

all_of : (cs : List ℕ) → scalars cs ≡ list_all scalar cs
all_of [] = refl
all_of (c ∷ cs) = ap (λ (b : Bool). scalar c && b) (all_of cs)

pub normalized : (cs : List ℕ) → scalars cs ≡ true → scalars (nfkc cs) ≡ true
normalized cs all =
    all_of (nfkc cs) ∙ list_all-normalize Nfkc scalar decomposes composes cs (sym (all_of cs) ∙ all)

form_of : (b : Bool) (cs form : List ℕ) → scalars cs ≡ true
    → (if b then None else Some (encode_utf8_all cs)) ≡ Some form → IsUtf8 form
form_of true cs form all is = absurd cc
form_of false cs form all is = let same : encode_utf8_all cs ≡ form = cc in (cs, (all, same))

pub prepared_utf8 : (text form : List ℕ) → IsUtf8 text → saslprep text ≡ Some form → IsUtf8 form
unfolding saslprep
prepared_utf8 text form utf8 is = form_of (list_any is_ascii_control (chars text)) (nfkc (chars text)) form
    (normalized (chars text) (scalars-chars text utf8)) is
