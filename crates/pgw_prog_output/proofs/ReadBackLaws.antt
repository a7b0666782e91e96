-- What is read of printed rows.
use Rattle.std.proofs.Common.{◌≡◌, ◌≤◌, ◌+◌, ℕ, zero, suc, List, [], ◌∷◌, ◌++◌, length, map, true, Option, Some, None}
use Rattle.std.proofs.Common.{refl, ap, inl, inr, arith}
use Rattle.std.specs.Prelude.{codes, nat_eq, if◌then◌else◌}
use Rattle.std.specs.List.{flat_map}
use Rattle.std.specs.Str.Lossy.{utf8_lossy}
use Rattle.std.specs.Cmp.Lexicographic.{pointwise}
use Rattle.std.proofs.lemmas.Bool.{cases_Bool, false≢true}
use Rattle.std.proofs.lemmas.List.{length-append}
use Rattle.csv.specs.Machine.{next_record}
use Rattle.csv.specs.Reading.{default_config, records_from}
use Rattle.csv.specs.Writing.{default_writer, is_blank, read_back, row_body}
use Rattle.csv.specs.declared.parser.State.TheVariants as st
use Rattle.csv.proofs.RoundTrip.{read-write}
use Rattle.json.specs.Word.{after_number}
use Rattle.json.specs.Json.{Json}
use Rattle.json.specs.Tree.{HasNumbers, MembersHaveNumbers, depth, members_depth}
use Rattle.json.proofs.Printed.Trees.{document-print}
use Rattle.pgw_prog_output.specs.declared.columns.Column.{Column}
use Rattle.pgw_prog_output.specs.declared.columns.ColumnKind.{ColumnKind}
use Rattle.pgw_prog_output.specs.declared.columns.ColumnKind.TheVariants as kind
use Rattle.pgw_prog_output.specs.Columns.{Value}
use Rattle.pgw_prog_output.specs.CsvLines.{csv_line, csv_field_text}
use Rattle.pgw_prog_output.specs.JsonLines.{is_at_end, json_of, json_row, json_text, members_of, truth_of}
use Rattle.pgw_prog_output.specs.ReadBack.{CsvReadsBack, JsonReadsBack}

-- ---- CSV

-- a line has a byte at least
line_some : (row : List Value) → 1 ≤ length (csv_line row)
unfolding csv_line
line_some row = two_parts (row_body default_writer (map csv_field_text row)) (if is_blank default_writer
    (map csv_field_text row) then 34 ∷ 34 ∷ [] else []) where
      two_parts : (xs ys : List ℕ) → 1 ≤ length (xs ++ (ys ++ (10 ∷ [])))
      two_parts xs ys = rw (length-append xs (ys ++ (10 ∷ []))) (rw (length-append ys (10 ∷ [])) (omega arith))

-- no more turns than lines are wanted
read_lines : (rows : List (List Value)) (turns : ℕ) → length rows ≤ turns
    → records_from default_config turns st.StartRecord (flat_map csv_line rows)
    ≡ map (λ row. read_back (map csv_field_text row)) rows
unfolding records_from next_record csv_line
read_lines [] zero p = refl
read_lines [] (suc turns) p = refl
read_lines (row ∷ rows) zero p = absurd (omega (arith, p))
read_lines (row ∷ rows) (suc turns) p =
    rw (read-write (map csv_field_text row) (flat_map csv_line rows)) (ap (λ (t : List (List (List ℕ))). read_back
    (map csv_field_text row) ∷ t) (read_lines rows turns (omega (arith, p))))

-- there are as many bytes as lines at least
lines_bound : (rows : List (List Value)) → length rows ≤ length (flat_map csv_line rows)
lines_bound [] = omega arith
lines_bound (row ∷ rows) = rw (length-append (csv_line row) (flat_map csv_line rows)) (omega
    (arith, line_some row, lines_bound rows))

pub csv_reads_back : (rows : List (List Value)) → CsvReadsBack rows
csv_reads_back rows = read_lines rows (length (flat_map csv_line rows) + 1) (omega (arith, lines_bound rows))

-- ---- JSON

at_end : (rest : Option (List ℕ)) → is_at_end rest ≡ true → rest ≡ Some []
at_end None e = absurd (false≢true e)
at_end (Some []) e = refl
at_end (Some (byte ∷ rest)) e = absurd (false≢true e)

-- a value has no array and no object, and its number is one
abbrev IsPlain : Json → Type 0
IsPlain j = HasNumbers j × (depth j ≡ 0)

plain_truth : (text : List ℕ) → IsPlain (truth_of text)
plain_truth text = elim (cases_Bool (pointwise nat_eq text (codes "t"))) [
  | inl is_t ↦ rw is_t (tt, refl)
  | inr other ↦ rw other (elim (cases_Bool (pointwise nat_eq text (codes "f"))) [
    | inl is_f ↦ rw is_f (tt, refl)
    | inr neither ↦ rw neither (tt, refl)
  ])
]

plain_number : (text : List ℕ) → IsPlain (json_text kind.Number text)
plain_number text = elim (cases_Bool (is_at_end (after_number text))) [
  | inl whole ↦ rw whole (at_end (after_number text) whole, refl)
  | inr not_whole ↦ rw not_whole (tt, refl)
]

plain_value : (k : ColumnKind) (value : Value) → IsPlain (json_of k value)
plain_value k None = (tt, refl)
plain_value kind.Truth (Some bytes) = plain_truth (utf8_lossy bytes)
plain_value kind.Number (Some bytes) = plain_number (utf8_lossy bytes)
plain_value kind.Words (Some bytes) = (tt, refl)

members_plain : (columns : List Column) (row : List Value)
    → MembersHaveNumbers (members_of columns row) × (members_depth (members_of columns row) ≡ 0)
members_plain [] row = (tt, refl)
members_plain (column ∷ columns) [] = (tt, refl)
members_plain (column ∷ columns) (value ∷ row) =
    let one = plain_value column.kind value in
    let rest = members_plain columns row in
    ((one.0, rest.0), rw one.1 (rw rest.1 refl))

pub json_reads_back : (columns : List Column) (row : List Value) → JsonReadsBack columns row
json_reads_back columns row =
    let plain = members_plain columns row in
    document-print (json_row columns row) plain.0 (rw plain.1 (omega arith))
