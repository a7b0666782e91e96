-- How a table's columns are laid out.
use Rattle.std.specs.Prelude.{◌==◌, List, [], ◌∷◌, length, map, fold, Bool, true, false, Some}
use Rattle.pgw_prog_output.specs.declared.columns.ColumnKind.{ColumnKind}
use Rattle.pgw_prog_output.specs.declared.columns.ColumnKind.TheVariants as kind
use Rattle.pgw_prog_output.specs.declared.columns.Column.{Column}
use Rattle.pgw_prog_output.specs.declared.table_lines.Side.{Side}
use Rattle.pgw_prog_output.specs.declared.table_lines.Side.TheVariants as side
use Rattle.pgw_prog_output.specs.declared.table_lines.TableColumn.{TableColumn}
use Rattle.pgw_prog_output.specs.Columns.{Value}
use Rattle.pgw_prog_output.specs.TableLines.{widened}

abbrev pub column_name : Column → Value
column_name column = Some column.name

-- the names of columns as a row
abbrev pub names_of : List Column → List Value
names_of columns = map column_name columns

-- words stand on the left, in the last column with no blanks behind them
abbrev pub words_side : Bool → Side
words_side true = side.Open
words_side false = side.Left

-- numbers stand on the right
abbrev pub column_side : ColumnKind → Bool → Side
column_side kind.Number is_last = side.Right
column_side kind.Truth is_last = words_side is_last
column_side kind.Words is_last = words_side is_last

-- columns of no width
abbrev pub columns_for : List Column → List TableColumn
columns_for [] = []
columns_for (column ∷ columns) = record {
  width = 0;
  side = column_side column.kind
      (length columns == 0);
} ∷ columns_for columns

-- wide enough for each of these rows, up to 100
abbrev pub widened_by : List TableColumn → List (List Value) → List TableColumn
widened_by columns rows = fold widened columns rows

-- wide enough for their names and for these rows, up to 100
abbrev pub laid_out : List Column → List (List Value) → List TableColumn
laid_out columns rows = widened_by (widened (columns_for columns) (names_of columns)) rows
