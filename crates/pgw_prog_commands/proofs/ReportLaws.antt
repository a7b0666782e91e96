-- The lines of a report.
use Rattle.std.proofs.Common.{◌≡◌, ◌≢◌, ◌∙◌, ◌==◌, ◌+◌, ◌/◌, ◌%◌, ◌<◌, ◌≤◌, ℕ, suc, List, [], ◌∷◌, ◌++◌, length, map, Bool}
use Rattle.std.proofs.Common.{cond, refl, sym, ap, inl, inr, append_assoc, arith}
use Rattle.std.proofs.lemmas.Bool.{cases_Bool, cases_lt, ne_eqb, eqb-false, le-ltb}
use Rattle.std.proofs.lemmas.Str.{encode_ascii}
use Rattle.std.proofs.lemmas.Grind.{flat_map-append}
use Rattle.std.proofs.lemmas.List.Sums.{sum_by-append}
use Rattle.std.specs.List.{flat_map, count_by}
use Rattle.std.specs.Char.{is_control, encode_utf8}
use Rattle.std.specs.FinMap as finite
use Rattle.std.specs.Prelude.{chars, nat_lt}
use Rattle.pgw_prog_output.specs.Shown.{visible, without_controls}
use Rattle.pgw_prog_commands.specs.declared.report.CheckReport.{CheckReport}
use Rattle.pgw_prog_commands.specs.Report.{clean_line, lines_text, login_lines, report_parameter, check_lines, report_text}
use Rattle.pgw_prog_commands.specs.Report.{session_lines, time_lines}

-- four pieces
pub joined : (r : CheckReport) (old one two three new : List ℕ) → one ≡ old ++ lines_text (login_lines r)
    → two ≡ one ++ lines_text (session_lines r)
    → three ≡ two ++ lines_text (map report_parameter (finite.entries r.parameters.now))
    → new ≡ three ++ lines_text (time_lines r) → new ≡ old ++ report_text r
unfolding check_lines
joined r old one two three new p q s u =
    let a = login_lines r in
    let b = session_lines r in
    let c = map report_parameter (finite.entries r.parameters.now) in
    let d = time_lines r in
    u ∙ joined_by (lines_text d) two three (lines_text c) s
    ∙ joined_by (lines_text c ++ lines_text d) one two (lines_text b) q
    ∙ joined_by (lines_text b ++ (lines_text c ++ lines_text d)) old one (lines_text a) p
    ∙ ap (λ (t : List ℕ). old ++ t) (ap (λ (t : List ℕ). lines_text a ++ (lines_text b ++ t)) (sym
    (flat_map-append clean_line c d)) ∙ ap (λ (t : List ℕ). lines_text a ++ t) (sym
    (flat_map-append clean_line b (c ++ d))) ∙ sym (flat_map-append clean_line a (b ++ (c ++ d)))) where
      joined_by : (rest old new part : List ℕ) → new ≡ old ++ part → new ++ rest ≡ old ++ (part ++ rest)
      joined_by rest old new part is = ap (λ (t : List ℕ). t ++ rest) is ∙ append_assoc old part rest

-- ---- ends of lines

abbrev is_end : ℕ → Bool
is_end byte = byte == 10

abbrev ends : List ℕ → ℕ
ends text = count_by is_end text

ends_append : (one other : List ℕ) → ends (one ++ other) ≡ ends one + ends other
ends_append one other = sum_by-append (λ byte. cond (is_end byte) 1 0) one other

-- bytes that are none
one_plain : (b : ℕ) (rest : List ℕ) → b ≢ 10 → ends rest ≡ 0 → ends (b ∷ rest) ≡ 0
one_plain b rest p q = rw (ne_eqb b 10 p) q

high : (b : ℕ) (rest : List ℕ) → 128 ≤ b → ends rest ≡ 0 → ends (b ∷ rest) ≡ 0
high b rest p q = one_plain b rest (λ e. absurd (omega (arith, p, e))) q

encoded_low : (c : ℕ) → c ≢ 10 → c < 128 → ends (encode_utf8 c) ≡ 0
encoded_low c other low = rw (encode_ascii c low) (one_plain c [] other refl)

two_high : (a b : ℕ) → 128 ≤ a → 128 ≤ b → ends (a ∷ b ∷ []) ≡ 0
two_high a b p q = high a (b ∷ []) p (high b [] q refl)

three_high : (a b c : ℕ) → 128 ≤ a → 128 ≤ b → 128 ≤ c → ends (a ∷ b ∷ c ∷ []) ≡ 0
three_high a b c p q r = high a (b ∷ c ∷ []) p (two_high b c q r)

four_high : (a b c d : ℕ) → 128 ≤ a → 128 ≤ b → 128 ≤ c → 128 ≤ d → ends (a ∷ b ∷ c ∷ d ∷ []) ≡ 0
four_high a b c d p q r s = high a (b ∷ c ∷ d ∷ []) p (three_high b c d q r s)

above : (n k : ℕ) → 128 ≤ n → 128 ≤ n + k
above n k p = omega (arith, p)

tail_byte : (n : ℕ) → 128 ≤ 128 + n % 64
tail_byte n = omega arith

encoded_high : (c : ℕ) → 128 ≤ c → ends (encode_utf8 c) ≡ 0
unfolding encode_utf8
encoded_high c p = rw (le-ltb c 128 p) (elim (cases_Bool (nat_lt c 2048)) [
  | inl two ↦ rw two (two_high (192 + c / 64) (128 + c % 64) (above 192 (c / 64) (omega arith)) (tail_byte c))
  | inr more ↦ rw more (elim (cases_Bool (nat_lt c 65536)) [
    | inl three ↦
        rw three (three_high (224 + c / 4096) (128 + c / 64 % 64) (128 + c % 64) (above 224 (c / 4096)
        (omega arith)) (tail_byte (c / 64)) (tail_byte c))
    | inr four ↦
        rw four (four_high (240 + c / 262144) (128 + c / 4096 % 64) (128 + c / 64 % 64) (128 + c % 64)
        (above 240 (c / 262144) (omega arith)) (tail_byte (c / 4096)) (tail_byte (c / 64)) (tail_byte c))
  ])
])

encoded : (c : ℕ) → c ≢ 10 → ends (encode_utf8 c) ≡ 0
encoded c other = elim (cases_lt c 128) [
  | inl low ↦ encoded_low c other low
  | inr past ↦ encoded_high c past
]

-- what is shown of a character
visible_plain : (c : ℕ) → ends (visible c) ≡ 0
unfolding visible
visible_plain c = elim (cases_Bool (c == 10)) [
  | inl feed ↦ rw feed refl
  | inr other ↦ rw other (elim (cases_Bool (c == 13)) [
    | inl back ↦ rw back refl
    | inr next ↦ rw next (elim (cases_Bool (c == 9)) [
      | inl tab ↦ rw tab refl
      | inr none ↦ rw none (elim (cases_Bool (is_control c)) [
        | inl control ↦ rw control (encoded 65533 (λ e. absurd (omega (arith, e))))
        | inr plain ↦ rw plain (encoded c (eqb-false c 10 other))
      ])
    ])
  ])
]

no_more : (m n : ℕ) → m ≡ 0 → n ≡ 0 → m + n ≡ 0
no_more m n p q = omega (arith, p, q)

shown_plain : (cs : List ℕ) → ends (flat_map visible cs) ≡ 0
shown_plain [] = refl
shown_plain (c ∷ cs) =
    ends_append (visible c) (flat_map visible cs) ∙ no_more (ends (visible c)) (ends (flat_map visible cs))
    (visible_plain c) (shown_plain cs)

-- a line has one, which ends it
one_end : (line : List ℕ) → ends (clean_line line) ≡ 1
one_end line =
    ends_append (without_controls line) (10 ∷ []) ∙ rw (shown_plain (chars line)) refl

one_more : (m n k : ℕ) → m ≡ 1 → n ≡ k → m + n ≡ suc k
one_more m n k p q = omega (arith, p, q)

lines_end : (lines : List (List ℕ)) → ends (lines_text lines) ≡ length lines
lines_end [] = refl
lines_end (line ∷ lines) =
    ends_append (clean_line line) (lines_text lines) ∙ one_more (ends (clean_line line)) (ends (lines_text lines))
    (length lines) (one_end line) (lines_end lines)

pub lines_kept : (r : CheckReport) → ends (report_text r) ≡ length (check_lines r)
lines_kept r = lines_end (check_lines r)
