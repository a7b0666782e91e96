-- Rows as lines of a table.
use Rattle.std.specs.Prelude.{◌-◌, ℕ, List, [], ◌∷◌, ◌++◌, codes, chars, max, min, replicate, false}
use Rattle.std.specs.List.{flat_map}
use Rattle.unicode_width.specs.Width.{str_width}
use Rattle.pgw_prog_output.specs.declared.table_lines.Side.{Side}
use Rattle.pgw_prog_output.specs.declared.table_lines.Side.TheVariants as side
use Rattle.pgw_prog_output.specs.declared.table_lines.TableColumn.{TableColumn}
use Rattle.pgw_prog_output.specs.Columns.{Value}
use Rattle.pgw_prog_output.specs.Shown.{printed_value}

-- the columns of a terminal that a text takes
abbrev pub width : List ℕ → ℕ
width text = str_width false (chars text)

abbrev pub width_of : Value → ℕ
width_of value = width (printed_value value)

-- a text and the blanks that fill its column
abbrev pub beside : Side → List ℕ → List ℕ → List ℕ
beside side.Left text blanks = text ++ blanks
beside side.Right text blanks = blanks ++ text
beside side.Open text blanks = text

abbrev pub padded : TableColumn → List ℕ → List ℕ
padded column text = beside column.side text (replicate (column.width - width text) 32)

unfoldable pub cell_text : TableColumn → Value → List ℕ
cell_text column value = padded column (printed_value value)

-- the cells behind the first
abbrev pub table_rest : List TableColumn → List Value → List ℕ
table_rest [] row = []
table_rest (column ∷ columns) [] = []
table_rest (column ∷ columns) (value ∷ row) = codes " | " ++ cell_text column value
    ++ table_rest columns row

abbrev pub cells_text : List TableColumn → List Value → List ℕ
cells_text [] row = []
cells_text (column ∷ columns) [] = []
cells_text (column ∷ columns) (value ∷ row) = cell_text column value ++ table_rest columns row

-- a cell for each column that has a value, with bars between them
unfoldable pub table_line : List TableColumn → List Value → List ℕ
table_line columns row = cells_text columns row ++ (10 ∷ [])

-- ---- the rule

abbrev pub rule_rest : TableColumn → List ℕ
rule_rest column = codes "-+-" ++ replicate column.width 45

abbrev pub rules_text : List TableColumn → List ℕ
rules_text [] = []
rules_text (column ∷ columns) = replicate column.width 45 ++ flat_map rule_rest columns

abbrev pub rule_line : List TableColumn → List ℕ
rule_line columns = rules_text columns ++ (10 ∷ [])

-- ---- widths

abbrev pub wider : TableColumn → Value → TableColumn
wider column value = record column { width = max column.width (min (width_of value) 100) }

-- each column at least as wide as the row's value, up to 100
abbrev pub widened : List TableColumn → List Value → List TableColumn
widened [] row = []
widened (column ∷ columns) [] = column ∷ columns
widened (column ∷ columns) (value ∷ row) = wider column value ∷ widened columns row
