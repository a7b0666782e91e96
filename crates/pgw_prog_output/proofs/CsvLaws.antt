-- Lines of CSV are the texts of their records.
use Rattle.std.proofs.Common.{◌≡◌, ◌∙◌, ◌==◌, ℕ, suc, List, [], ◌∷◌, ◌++◌, length, map, false, Option, refl, ap, sym}
use Rattle.std.proofs.Common.{inl, inr, append_assoc}
use Rattle.std.proofs.lemmas.Bool.{cases_Bool, ne_eqb}
use Rattle.std.specs.List.{flat_map, list_any}
use Rattle.csv.specs.Writing.{default_writer, escaped, field_text, fields_text, is_blank, needs_byte, row_body}
use Rattle.pgw_prog_output.specs.CsvLines.{csv_field_text, blank_text, csv_fields, csv_line, csv_rest, escaped_byte}
use Rattle.pgw_prog_output.specs.CsvLines.{is_blank_line, field_in_csv}

escaped_is : (field : List ℕ) → flat_map escaped_byte field ≡ escaped default_writer field
unfolding escaped
escaped_is [] = refl
escaped_is (b ∷ field) = elim (cases_Bool (b == 34)) [
  | inl quote ↦ rw quote (ap (λ (t : List ℕ). 34 ∷ (b ∷ t)) (escaped_is field))
  | inr other ↦ rw other (ap (λ (t : List ℕ). b ∷ t) (escaped_is field))
]

written_is : (field : List ℕ) → field_in_csv field ≡ field_text default_writer field
written_is field = rw (escaped_is field) refl

rest_is : (row : List (Option (List ℕ))) → csv_rest row ≡ fields_text default_writer (map csv_field_text row)
unfolding fields_text
rest_is [] = refl
rest_is (value ∷ row) =
    rw (written_is (csv_field_text value)) (ap (λ (t : List ℕ). 44 ∷ (field_text default_writer
    (csv_field_text value) ++ t)) (rest_is row))

fields_are : (row : List (Option (List ℕ))) → csv_fields row ≡ row_body default_writer (map csv_field_text row)
fields_are [] = refl
fields_are (value ∷ row) = rw (written_is (csv_field_text value)) (ap (λ (t : List ℕ). field_text default_writer
    (csv_field_text value) ++ t) (rest_is row))

not_none : (b : ℕ) (x : List ℕ) → (length (b ∷ x) == 0) ≡ false
not_none b x = ne_eqb (suc (length x)) 0 (λ z. cc z)

-- a field shows no byte where it is empty
empty_field : (x : List ℕ) → (length (field_text default_writer x) == 0) ≡ (length x == 0)
empty_field [] = refl
empty_field (b ∷ x) = elim (cases_Bool (list_any (needs_byte default_writer) (b ∷ x))) [
  | inl needs ↦ rw needs (not_none 34 _ ∙ sym (not_none b x))
  | inr plain ↦ rw plain refl
]

blank_is : (row : List (Option (List ℕ))) → is_blank_line row ≡ is_blank default_writer (map csv_field_text row)
unfolding is_blank
blank_is [] = refl
blank_is (value ∷ []) = sym (empty_field (csv_field_text value))
blank_is (value ∷ next ∷ row) = refl

line_is : (row : List (Option (List ℕ))) → csv_fields row ++ (blank_text row ++ (10 ∷ [])) ≡ csv_line row
unfolding csv_line
line_is row = rw (fields_are row) (rw (blank_is row) refl)

-- three pieces
pub line_joined : (row : List (Option (List ℕ))) (old one two new : List ℕ) → one ≡ old ++ csv_fields row
    → two ≡ one ++ blank_text row → new ≡ two ++ (10 ∷ []) → new ≡ old ++ csv_line row
line_joined row old one two new p q r = r ∙ ap (λ (t : List ℕ). t ++ (10 ∷ [])) (q
    ∙ ap (λ (t : List ℕ). t ++ blank_text row) p)
    ∙ append_assoc (old ++ csv_fields row) (blank_text row) (10 ∷ [])
    ∙ append_assoc old (csv_fields row) (blank_text row ++ (10 ∷ []))
    ∙ ap (λ (t : List ℕ). old ++ t) (line_is row)
