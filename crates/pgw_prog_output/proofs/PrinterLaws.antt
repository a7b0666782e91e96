-- The rows that say how wide a table's columns are, and those behind them.
use Rattle.std.proofs.Common.{◌≡◌, ◌∙◌, ◌≤◌, ◌<◌, ℕ, List, [], ◌∷◌, ◌++◌, length, take, refl, sym, ap, subst}
use Rattle.std.proofs.Common.{append_assoc, arith}
use Rattle.std.proofs.Math.Seq.{take-append_seam}
use Rattle.std.specs.List.{flat_map}
use Rattle.std.proofs.lemmas.List.{append-nil, length_push, take_all}
use Rattle.std.proofs.lemmas.List.Concat.{flat_map-append}
use Rattle.pgw_prog_output.specs.declared.columns.Column.{Column}
use Rattle.pgw_prog_output.specs.declared.table_lines.TableColumn.{TableColumn}
use Rattle.pgw_prog_output.specs.Columns.{Value}
use Rattle.pgw_prog_output.specs.Layout.{laid_out, names_of}
use Rattle.pgw_prog_output.specs.TableLines.{table_line, rule_line}
use Rattle.pgw_prog_output.specs.Printing.{aligned_text, table_text}

-- fewer rows than are enough, and no more of them
pub whole_sample : (columns : List Column) (rows : List (List Value)) → length rows < 100
    → aligned_text (laid_out columns rows) columns rows ≡ table_text columns (rows ++ [])
unfolding table_text
whole_sample columns rows few = rw (append-nil rows) (rw (take_all 100 rows (omega arith)) refl)

-- more rows behind a table's first
more_rows : (laid : List TableColumn) (columns : List Column) (sample rows : List (List Value))
    → aligned_text laid columns (sample ++ rows) ≡ aligned_text laid columns sample ++ flat_map (table_line laid)
    rows
unfolding aligned_text
more_rows laid columns sample rows = rw (flat_map-append (table_line laid) sample rows) (sym (append_assoc
    (table_line laid (names_of columns) ++ rule_line laid) (flat_map (table_line laid) sample) (flat_map
    (table_line laid) rows)))

take_front : (sample rows : List (List Value)) (n : ℕ) → length sample ≡ n → take n (sample ++ rows) ≡ sample
take_front sample rows n e = subst (λ (k : ℕ). take k (sample ++ rows) ≡ sample) e (take-append_seam sample rows)

-- enough rows, and those behind them
enough : (columns : List Column) (held : List (List Value)) (row : List Value) (rows : List (List Value))
    → length held < 100 → 100 ≤ length (held ++ row ∷ [])
    → aligned_text (laid_out columns (held ++ row ∷ [])) columns (held ++ row ∷ [])
    ++ flat_map (table_line (laid_out columns (held ++ row ∷ []))) rows ≡ table_text columns (held ++ row ∷ rows)
unfolding table_text
enough columns held row rows few many =
    let sample = held ++ row ∷ [] in
    let whole : sample ++ rows ≡ held ++ row ∷ rows = append_assoc held (row ∷ []) rows in
    let front : take 100 (sample ++ rows) ≡ sample = take_front sample rows 100 (omega
    (arith, length_push held row)) in
    sym (more_rows (laid_out columns sample) columns sample rows)
    ∙ ap (λ (t : List (List Value)). aligned_text (laid_out columns t) columns (sample ++ rows)) (sym front)
    ∙ ap (λ (t : List (List Value)). aligned_text (laid_out columns (take 100 t)) columns t) whole

-- as enough, behind a text
pub enough_behind : (old new : List ℕ) (columns : List Column) (held sample : List (List Value))
    (row : List Value)
    (laid : List TableColumn)
    → length held < 100 → sample ≡ held ++ row ∷ [] → 100 ≤ length sample → laid ≡ laid_out columns sample
    → new ≡ old ++ aligned_text (laid_out columns sample) columns sample
    → (rows : List (List Value)) → new ++ flat_map (table_line laid) rows
    ≡ old ++ table_text columns (held ++ row ∷ rows)
enough_behind old new columns held sample row laid few is many lay text rows =
    let spelled : new ≡ old ++ aligned_text (laid_out columns (held ++ row ∷ [])) columns (held
    ++ row ∷ []) = rw (← is) text in
    let laid_is : laid ≡ laid_out columns (held ++ row ∷ []) = rw (← is) lay in
    rw spelled (rw laid_is (append_assoc old (aligned_text (laid_out columns (held ++ row ∷ [])) columns (held
    ++ row ∷ [])) (flat_map (table_line (laid_out columns (held ++ row ∷ []))) rows)
    ∙ ap (λ (t : List ℕ). old ++ t) (enough columns held row rows few (rw (← is) many))))
