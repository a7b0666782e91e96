-- Behind the last column that has a value.
use Rattle.std.proofs.Common.{◌≡◌, ◌∙◌, ◌≤◌, ℕ, List, [], ◌∷◌, ◌++◌, length, drop, take, min, Bool, true, false, refl}
use Rattle.std.proofs.Common.{ap, inl, inr, arith}
use Rattle.std.proofs.lemmas.Bool.{cases_lt, false≢true}
use Rattle.std.proofs.lemmas.List.{drop_all, take-append-drop}
use Rattle.json.specs.Json.{no_members}
use Rattle.pgw_prog_output.specs.declared.columns.Column.{Column}
use Rattle.pgw_prog_output.specs.declared.table_lines.TableColumn.{TableColumn}
use Rattle.pgw_prog_output.specs.Columns.{Value}
use Rattle.pgw_prog_output.specs.JsonLines.{members_of}
use Rattle.pgw_prog_output.specs.TableLines.{table_rest, widened}

abbrev one_empty : {A B : Type 0} → List A → List B → Bool
one_empty [] ys = true
one_empty (x ∷ xs) [] = true
one_empty (x ∷ xs) (y ∷ ys) = false

-- two lists, of which one is at its end
at_an_end : {A B C : Type 0} (f : List A → List B → C) (none : C) → ((xs : List A) → f xs [] ≡ none)
    → ((ys : List B) → f [] ys ≡ none)
    → (xs : List A) (ys : List B) (at : ℕ) → min (length xs) (length ys) ≤ at → f (drop at xs) (drop at ys) ≡ none
at_an_end f none right left xs ys at p = elim (cases_lt at (length xs)) [
  | inl below ↦ rw (drop_all at ys (omega arith)) (right (drop at xs))
  | inr past ↦ rw (drop_all at xs past) (left (drop at ys))
]

pub members_end : (columns : List Column) (row : List Value) (at : ℕ) → min (length columns) (length row) ≤ at
    → members_of (drop at columns) (drop at row) ≡ no_members
members_end columns row at p = at_an_end members_of no_members no_values (λ
    (ys : List Value). refl) columns row at p where
      no_values : (columns : List Column) → members_of columns [] ≡ no_members
      no_values [] = refl
      no_values (column ∷ columns) = refl

pub table_end : (columns : List TableColumn) (row : List Value) (at : ℕ) → min (length columns) (length row) ≤ at
    → table_rest (drop at columns) (drop at row) ≡ []
table_end columns row at p = at_an_end table_rest [] no_values (λ (ys : List Value). refl) columns row at p where
  no_values : (columns : List TableColumn) → table_rest columns [] ≡ []
  no_values [] = refl
  no_values (column ∷ columns) = refl

pub widened_end : (columns : List TableColumn) (row : List Value) (at : ℕ)
    → min (length columns) (length row) ≤ at
    → take at columns ++ widened (drop at columns) (drop at row) ≡ columns
widened_end columns row at p = ap (λ (t : List TableColumn). take at columns
    ++ t) (rest (drop at columns) (drop at row) (at_an_end (λ (xs : List TableColumn)
    (ys : List Value). one_empty xs ys) true left right columns row at p)) ∙ take-append-drop at columns where
      left : (xs : List TableColumn) → one_empty {A = TableColumn} {B = Value} xs [] ≡ true
      left [] = refl
      left (x ∷ xs) = refl

      right : (ys : List Value) → one_empty {A = TableColumn} {B = Value} [] ys ≡ true
      right ys = refl

      rest : (columns : List TableColumn) (row : List Value) → one_empty columns row ≡ true
          → widened columns row ≡ columns
      rest [] row e = refl
      rest (column ∷ columns) [] e = refl
      rest (column ∷ columns) (value ∷ row) e = absurd (false≢true e)
