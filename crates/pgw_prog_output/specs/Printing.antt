-- The printed rows of a result.
use Rattle.std.specs.Prelude.{◌≡◌, ℕ, List, ◌∷◌, ◌++◌, take}
use Rattle.std.specs.List.{flat_map}
use Rattle.pgw_prog_output.specs.declared.columns.Column.{Column}
use Rattle.pgw_prog_output.specs.declared.table_lines.TableColumn.{TableColumn}
use Rattle.pgw_prog_output.specs.declared.printer.RowFormat.{RowFormat}
use Rattle.pgw_prog_output.specs.declared.printer.RowFormat.TheVariants as format
use Rattle.pgw_prog_output.specs.declared.printer.RowPrinter.{RowPrinter}
use Rattle.pgw_prog_output.specs.declared.printer.RowPrinter.TheVariants as printer
use Rattle.pgw_prog_output.specs.Columns.{Value}
use Rattle.pgw_prog_output.specs.CsvLines.{csv_line}
use Rattle.pgw_prog_output.specs.JsonLines.{json_line}
use Rattle.pgw_prog_output.specs.Layout.{laid_out, names_of}
use Rattle.pgw_prog_output.specs.TableLines.{table_line, rule_line}

-- the names of the columns, a rule, and the rows
unfoldable pub aligned_text : List TableColumn → List Column → List (List Value) → List ℕ
aligned_text laid columns rows = table_line laid (names_of columns) ++ rule_line laid
    ++ flat_map (table_line laid) rows

-- the first 100 rows say how wide the columns are
unfoldable pub table_text : List Column → List (List Value) → List ℕ
table_text columns rows = aligned_text (laid_out columns (take 100 rows)) columns rows

-- the rows of a result: CSV has the names of the columns on its first line
abbrev pub output_text : RowFormat → List Column → List (List Value) → List ℕ
output_text format.Csv columns rows = csv_line (names_of columns) ++ flat_map csv_line rows
output_text format.Json columns rows = flat_map (json_line columns) rows
output_text format.Table columns rows = table_text columns rows

-- what a printer prints of the rows that are still to come
abbrev pub text_for : RowPrinter → List (List Value) → List ℕ
text_for printer.Csv rows = flat_map csv_line rows
text_for (printer.Json columns) rows = flat_map (json_line columns) rows
text_for (printer.Sampling sample) rows = table_text sample.columns (sample.rows ++ rows)
text_for (printer.Aligned laid) rows = flat_map (table_line laid.items) rows

-- whatever rows come, what is printed now and then is the result
abbrev pub BeginsOutput : RowFormat → List Column → List ℕ → List ℕ → RowPrinter → Type 0
BeginsOutput f columns before after new = (rows : List (List Value))
    → after ++ text_for new rows ≡ before ++ output_text f columns rows

-- whatever rows come, what is printed now and then is what was to be printed of the row and of
-- those
abbrev pub PrintsRow : RowPrinter → List Value → List ℕ → List ℕ → RowPrinter → Type 0
PrintsRow old row before after new = (rows : List (List Value))
    → after ++ text_for new rows ≡ before ++ text_for old (row ∷ rows)
