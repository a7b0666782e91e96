-- A command tag comes back from its text.
use Rattle.std.proofs.Common.{◌≡◌, ℕ, ◌<◌, ◌^◌, Bool, true, false, not, cond, eqb, List, [], ◌∷◌, ◌++◌, length, fold, Option, Some, None, refl, sym, ap, ◌∙◌, arith, append_assoc}
use Rattle.std.specs.List.{list_all}
use Rattle.std.specs.Char.{is_whitespace, is_not_whitespace, encode_utf8}
use Rattle.std.specs.Int.{IsInRange}
use Rattle.std.specs.Str.{chars}
use Rattle.std.specs.Str.Parse.{AllDigits}
use Rattle.std.specs.Fmt.{decimal}
use Rattle.std.proofs.lemmas.Bool.{and_parts}
use Rattle.std.proofs.lemmas.Bool.Decides.{nat_tests}
use Rattle.std.proofs.lemmas.Fmt.{decimal_is_IsNumeral, IsAscii-decimal}
use Rattle.std.proofs.lemmas.Str.{chars-append, chars-IsAscii, encodes-chars, IsUtf8-from_ascii}
use Rattle.std.proofs.lemmas.Str.Ascii.{IsAscii-cons, IsAscii-nil}
use Rattle.std.proofs.lemmas.Str.Parse.{digit_from_value}
use Rattle.std.proofs.lemmas.List.{append-nil}
use Rattle.std.proofs.lemmas.List.Sums.{fold-append}
use Rattle.std.specs.Prelude.{encode_utf8_all}
use Rattle.pgw_types.specs.Numbers.{number_in}
use Rattle.pgw_types.proofs.NumberLaws.{number_in-decimal}
use Rattle.pgw_query.specs.declared.tag.Tag.{Tag}
use Rattle.pgw_query.specs.Tags.{Words, tag_words, with_character, words, counted_tag, inserted_tag, tag_by, tag_of, tag_text, IsWord, AreCounts}

-- ---- numbers are words

not_white : (c : ℕ) → IsInRange 48 57 c → is_not_whitespace c ≡ true
not_white c h = grind (arith, nat_tests)

none_white : (ds : List ℕ) → AllDigits 10 ds → list_all is_not_whitespace ds ≡ true
none_white [] h = refl
none_white (d ∷ ds) h = rw (not_white d (digit_from_value d h.0), none_white ds h.1) refl

decimal_is_IsWord : (n : ℕ) → n < 2 ^ 64 → IsWord (decimal n)
decimal_is_IsWord n fits =
    let numeral = (decimal_is_IsNumeral n fits).0 in
    record {
      utf8 = IsUtf8-from_ascii (decimal n) (IsAscii-decimal n fits);
      some = numeral.0;
      whole = rw (chars-IsAscii (decimal n) (IsAscii-decimal n fits)) (none_white (decimal n) numeral.1);
    }

-- ---- words in a row

false_of : (b : Bool) → not b ≡ true → b ≡ false
false_of true h = absurd cc
false_of false h = refl

-- characters that are not white space go on a word
goes_on : (cs : List ℕ) (ws : List (List ℕ)) (w : List ℕ) → list_all is_not_whitespace cs ≡ true
    → fold with_character (ws, w) cs ≡ (ws, w ++ encode_utf8_all cs)
goes_on [] ws w h = ap (λ (l : List ℕ). (ws, l)) (sym (append-nil w))
goes_on (c ∷ cs) ws w h =
    let p = and_parts (is_not_whitespace c) (list_all is_not_whitespace cs) h in
    let step : with_character (ws, w) c ≡ (ws, w ++ encode_utf8 c) =
    ap (λ (b : Bool). cond b (tag_words (ws, w), []) (ws, w ++ encode_utf8 c))
    (false_of (is_whitespace c) p.0) in
    ap (λ (s : Words). fold with_character s cs) step ∙ goes_on cs ws (w ++ encode_utf8 c) p.1
    ∙ ap (λ (l : List ℕ). (ws, l)) (append_assoc w (encode_utf8 c) (encode_utf8_all cs))

ends : (ws : List (List ℕ)) (x : List ℕ) → 0 < length x → tag_words (ws, x) ≡ ws ++ x ∷ []
ends ws x h =
    let some : eqb (length x) 0 ≡ false =
    grind (arith, nat_tests) in ap (λ (b : Bool). cond b ws (ws ++ x ∷ [])) some

word_read : (ws : List (List ℕ)) (x : List ℕ) → IsWord x → fold with_character (ws, []) (chars x) ≡ (ws, x)
word_read ws x w = goes_on (chars x) ws [] w.whole ∙ ap (λ (l : List ℕ). (ws, l)) (encodes-chars x w.utf8)

last_word : (ws : List (List ℕ)) (x : List ℕ) → IsWord x
    → tag_words (fold with_character (ws, []) (chars x)) ≡ ws ++ x ∷ []
last_word ws x w = ap tag_words (word_read ws x w) ∙ ends ws x w.some

after_space : (rest : List ℕ) → chars (32 ∷ rest) ≡ 32 ∷ chars rest
after_space rest =
    let space : chars (32 ∷ []) ≡ 32 ∷ [] = unfold chars in refl in
    chars-append (32 ∷ []) rest (IsUtf8-from_ascii (32 ∷ []) (IsAscii-cons 32 [] (omega arith) IsAscii-nil))
    ∙ ap (λ (l : List ℕ). l ++ chars rest) space

next_word : (ws : List (List ℕ)) (x rest : List ℕ) → IsWord x
    → fold with_character (ws, []) (chars (x ++ 32 ∷ rest)) ≡ fold with_character (ws ++ x ∷ [], []) (chars rest)
next_word ws x rest w =
    ap (fold with_character (ws, [])) (chars-append x (32 ∷ rest) w.utf8
    ∙ ap (λ (l : List ℕ). chars x ++ l) (after_space rest))
    ∙ fold-append with_character (ws, []) (chars x) (32 ∷ chars rest)
    ∙ ap (λ (s : Words). fold with_character s (32 ∷ chars rest)) (word_read ws x w)
    ∙ ap (λ (l : List (List ℕ)). fold with_character (l, []) (chars rest)) (ends ws x w.some)

one_word : (x : List ℕ) → IsWord x → words x ≡ x ∷ []
unfolding words
one_word x w = last_word [] x w

two_words : (x y : List ℕ) → IsWord x → IsWord y → words (x ++ 32 ∷ y) ≡ x ∷ y ∷ []
unfolding words
two_words x y wx wy = ap tag_words (next_word [] x y wx) ∙ last_word (x ∷ []) y wy

three_words : (x y z : List ℕ) → IsWord x → IsWord y → IsWord z → words (x ++ 32 ∷ (y ++ 32 ∷ z)) ≡ x ∷ y ∷ z ∷ []
unfolding words
three_words x y z wx wy wz =
    ap tag_words (next_word [] x (y ++ 32 ∷ z) wx ∙ next_word (x ∷ []) y z wy) ∙ last_word (x ∷ y ∷ []) z wz

-- ---- tags

made_back : (command : List ℕ) (oid rows : Option ℕ) → IsWord command → AreCounts oid rows → let tag : Tag =
    record { command = command; oid = oid; rows = rows } in tag_of (tag_text tag) ≡ tag
unfolding tag_of tag_text
made_back command None None w h = rw (append-nil command) (ap (tag_by command) (one_word command w))
made_back command None (Some rows) w h =
    let text = command ++ 32 ∷ decimal rows in
    ap (tag_by text) (two_words command (decimal rows) w (decimal_is_IsWord rows h))
    ∙ ap (counted_tag text command) (number_in-decimal rows 64 h h)
made_back command (Some oid) None w h = absurd h
made_back command (Some oid) (Some rows) w h =
    let text = command ++ 32 ∷ (decimal oid ++ 32 ∷ decimal rows) in
    let small : oid < 2 ^ 64 = omega (arith, h.0) in
    ap (tag_by text) (three_words command (decimal oid) (decimal rows) w (decimal_is_IsWord oid small)
    (decimal_is_IsWord rows h.1))
    ∙ ap (λ (o : Option ℕ). inserted_tag text command o (number_in 64 (decimal rows)))
    (number_in-decimal oid 32 small h.0)
    ∙ ap (inserted_tag text command (Some oid)) (number_in-decimal rows 64 h.1 h.1)

pub tag_comes_back : (tag : Tag) → IsWord tag.command → AreCounts tag.oid tag.rows → tag_of (tag_text tag) ≡ tag
tag_comes_back tag w h = made_back tag.command tag.oid tag.rows w h
