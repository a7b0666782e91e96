-- The words of a text, found one after the other.
use Rattle.std.proofs.Common.{◌≡◌, ℕ, ◌<◌, Bool, true, false, not, cond, eqb, List, [], ◌∷◌, ◌++◌, length, fold, Option, Some, None, refl, sym, ap, ◌∙◌, arith, append_assoc}
use Rattle.std.specs.Prelude.{encode_utf8_all, IsUtf8}
use Rattle.std.specs.Str.{chars, NonePass, NoCharPasses, EmptyOrStartsWithPassing}
use Rattle.std.specs.Char.{is_whitespace, is_not_whitespace, encode_utf8}
use Rattle.std.proofs.lemmas.Bool.Decides.{nat_tests}
use Rattle.std.proofs.lemmas.Str.{cons_from_encodes, encodes-chars, encodes_same, length-le-encodes}
use Rattle.std.proofs.lemmas.List.{append-nil}
use Rattle.pgw_query.specs.Tags.{Words, tag_words, with_character, words}

-- the words of some characters
abbrev pub words_of : List ℕ → List (List ℕ)
words_of cs = tag_words (fold with_character ([], []) cs)

-- ---- characters of some bytes

-- what is behind the first characters
behind : (ds cs : List ℕ) (rest : List ℕ) → encode_utf8_all cs ≡ encode_utf8_all ds ++ rest
    → (ts : List ℕ) × (cs ≡ ds ++ ts) × (encode_utf8_all ts ≡ rest)
behind [] cs rest is = (cs, refl, is)
behind (d ∷ ds) cs rest is =
    let first =
    cons_from_encodes cs (encode_utf8_all ds ++ rest) d (is
    ∙ append_assoc (encode_utf8 d) (encode_utf8_all ds) rest) in
    let more = behind ds first.0 rest first.2 in
    (more.0, first.1 ∙ ap (λ (l : List ℕ). d ∷ l) more.1, more.2)

white_of : (b : Bool) → not b ≡ false → b ≡ true
white_of true h = refl
white_of false h = absurd cc

-- ---- words

kept_by : (b : Bool) (ws vs : List (List ℕ)) (w : List ℕ)
    → cond b (ws ++ vs) ((ws ++ vs) ++ w ∷ []) ≡ ws ++ cond b vs (vs ++ w ∷ [])
kept_by true ws vs w = refl
kept_by false ws vs w = append_assoc ws vs (w ∷ [])

-- the words before stay
kept : (cs : List ℕ) (ws vs : List (List ℕ)) (w : List ℕ)
    → tag_words (fold with_character (ws ++ vs, w) cs) ≡ ws ++ tag_words (fold with_character (vs, w) cs)
kept [] ws vs w = kept_by (eqb (length w) 0) ws vs w
kept (c ∷ cs) ws vs w = go (is_whitespace c) (kept cs ws)
  where
    go : (b : Bool)
        → ((vs : List (List ℕ)) (w : List ℕ) → tag_words (fold with_character (ws ++ vs, w) cs) ≡ ws ++ tag_words
        (fold with_character (vs, w) cs))
        → tag_words (fold with_character (cond b (tag_words (ws ++ vs, w), []) (ws ++ vs, w ++ encode_utf8 c)) cs)
        ≡ ws ++ tag_words (fold with_character (cond b (tag_words (vs, w), []) (vs, w ++ encode_utf8 c)) cs)
    go true later =
        ap (λ (l : List (List ℕ)). tag_words (fold with_character (l, []) cs))
        (kept_by (eqb (length w) 0) ws vs w)
        ∙ later (tag_words (vs, w)) []
    go false later = later vs (w ++ encode_utf8 c)

past_white : (cs ds : List ℕ) → NonePass is_not_whitespace cs
    → fold with_character ([], []) (cs ++ ds) ≡ fold with_character ([], []) ds
past_white [] ds none = refl
past_white (c ∷ cs) ds none =
    let step : with_character ([], []) c ≡ ([], []) =
    ap (λ (b : Bool). cond b (tag_words ([], []), []) ([], encode_utf8 c)) (white_of (is_whitespace c) none.0)
    in
    ap (λ (s : Words). fold with_character s (cs ++ ds)) step ∙ past_white cs ds none.1

in_word : (cs ds w : List ℕ) → NonePass is_whitespace cs
    → fold with_character ([], w) (cs ++ ds) ≡ fold with_character ([], w ++ encode_utf8_all cs) ds
in_word [] ds w none = ap (λ (l : List ℕ). fold with_character ([], l) ds) (sym (append-nil w))
in_word (c ∷ cs) ds w none =
    let step : with_character ([], w) c ≡ ([], w ++ encode_utf8 c) =
    ap (λ (b : Bool). cond b (tag_words ([], w), []) ([], w ++ encode_utf8 c)) none.0 in
    ap (λ (s : Words). fold with_character s (cs ++ ds)) step ∙ in_word cs ds (w ++ encode_utf8 c) none.1
    ∙ ap (λ (l : List ℕ). fold with_character ([], l) ds) (append_assoc w (encode_utf8 c) (encode_utf8_all cs))

alone : (x : List ℕ) → 0 < length x → tag_words ([], x) ≡ x ∷ []
alone x some =
    let is : eqb (length x) 0 ≡ false = grind (arith, nat_tests) in ap (λ (b : Bool). cond b [] (x ∷ [])) is

-- a word ends where nothing is left, or at white space
word_ends : (ts x more : List ℕ) → 0 < length x → EmptyOrStartsWithPassing is_whitespace (encode_utf8_all ts) more
    → tag_words (fold with_character ([], x) ts) ≡ x ∷ words_of ts
word_ends [] x more some starts = alone x some
word_ends (c ∷ ts) x more some starts =
    let first = starts (omega (arith, length-le-encodes (c ∷ ts))) in
    let parts = cons_from_encodes (c ∷ ts) more first.0 first.2 in
    let same : c ≡ first.0 = cc in
    let white : is_whitespace c ≡ true = ap is_whitespace same ∙ first.1 in
    let here : with_character ([], x) c ≡ (x ∷ [], []) =
    ap (λ (b : Bool). cond b (tag_words ([], x), []) ([], x ++ encode_utf8 c)) white
    ∙ ap (λ (l : List (List ℕ)). (l, [])) (alone x some) in
    let there : with_character ([], []) c ≡ ([], []) =
    ap (λ (b : Bool). cond b (tag_words ([], []), []) ([], encode_utf8 c)) white in
    ap (λ (s : Words). tag_words (fold with_character s ts)) here ∙ kept ts (x ∷ []) [] []
    ∙ sym (ap (λ (s : Words). x ∷ tag_words (fold with_character s ts)) there)

-- ---- one step

-- what `split_whitespace` says of a word that it found, and of what is left behind it
abbrev pub Found : (old x new : List ℕ) → Type 0
Found old x new =
    (gap : List ℕ) × (old ≡ gap ++ (x ++ new)) × (0 < length x) × NoCharPasses is_not_whitespace gap
    × NoCharPasses is_whitespace x
    × ((more : List ℕ) × EmptyOrStartsWithPassing is_whitespace new more)

pub word_found : (old x new cs : List ℕ) → encode_utf8_all cs ≡ old → Found old x new
    → (ts : List ℕ) × (encode_utf8_all ts ≡ new) × (words_of cs ≡ x ∷ words_of ts)
word_found old x new cs is step =
    let gap = (step.3).0 in
    let word = (step.4).0 in
    let all : encode_utf8_all cs ≡ encode_utf8_all gap ++ (encode_utf8_all word ++ new) =
    rw ((step.3).1, (step.4).1) (is ∙ step.1) in
    let first = behind gap cs (encode_utf8_all word ++ new) all in
    let second = behind word first.0 new first.2 in
    let ts = second.0 in
    let are : cs ≡ gap ++ (word ++ ts) = first.1 ∙ ap (λ (l : List ℕ). gap ++ l) second.1 in
    let starts : EmptyOrStartsWithPassing is_whitespace (encode_utf8_all ts) (step.5).0 =
    rw second.2 (step.5).1 in (
      ts,
      second.2,
      ap words_of are
          ∙ ap tag_words (past_white gap (word ++ ts) (step.3).2 ∙ in_word word ts [] (step.4).2
          ∙ ap (λ (l : List ℕ). fold with_character ([], l) ts) (step.4).1)
          ∙ word_ends ts x (step.5).0 step.2 starts,
    )

pub none_found : (old cs : List ℕ) → encode_utf8_all cs ≡ old → NoCharPasses is_not_whitespace old
    → words_of cs ≡ []
none_found old cs is step =
    let same : cs ≡ step.0 = encodes_same cs step.0 (is ∙ sym step.1) in
    ap words_of (same ∙ sym (append-nil step.0)) ∙ ap tag_words (past_white step.0 [] step.2)

pub words_from : (text cs : List ℕ) → cs ≡ chars text → words text ≡ words_of cs
unfolding words
words_from text cs is = ap words_of (sym is)

-- ---- from step to step

-- these words of the text were found, and what is left has the others
abbrev pub Reads : (text rest : List ℕ) (found : List (List ℕ)) → Type 0
Reads text rest found = (cs : List ℕ) × (encode_utf8_all cs ≡ rest) × (words text ≡ found ++ words_of cs)

pub begins : (text rest : List ℕ) → IsUtf8 text → rest ≡ text → Reads text rest []
begins text rest u is = (chars text, encodes-chars text u ∙ sym is, words_from text (chars text) refl)

pub goes : (text old x new : List ℕ) (found : List (List ℕ)) → Reads text old found → Found old x new
    → Reads text new (found ++ x ∷ [])
goes text old x new found r step =
    let w = word_found old x new r.0 r.1 step in (
      w.0,
      w.1,
      r.2 ∙ ap (λ (l : List (List ℕ)). found ++ l) w.2
          ∙ sym (append_assoc found (x ∷ []) (words_of w.0)),
    )

pub ends : (text old : List ℕ) (found : List (List ℕ)) → Reads text old found → NoCharPasses is_not_whitespace old
    → words text ≡ found
ends text old found r step =
    r.2 ∙ ap (λ (l : List (List ℕ)). found ++ l) (none_found old r.0 r.1 step) ∙ append-nil found

pub none_of : {T : Type 0} (o : Option T) → ((x : T) → o ≡ Some x → ⊥) → o ≡ None
none_of None other = refl
none_of (Some x) other = absurd (other x refl)
