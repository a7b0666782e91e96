-- What is read of printed rows.
use Rattle.std.specs.Prelude.{◌≡◌, List, map, Some}
use Rattle.std.specs.List.{flat_map}
use Rattle.csv.specs.Reading.{default_config, records}
use Rattle.csv.specs.Writing.{read_back}
use Rattle.json.specs.Json.{document}
use Rattle.pgw_prog_output.specs.declared.columns.Column.{Column}
use Rattle.pgw_prog_output.specs.Columns.{Value}
use Rattle.pgw_prog_output.specs.CsvLines.{csv_line, csv_field_text}
use Rattle.pgw_prog_output.specs.JsonLines.{json_object, json_row}

-- the records of the lines are the rows, with an empty field for NULL
abbrev pub CsvReadsBack : List (List Value) → Type 0
CsvReadsBack rows = records default_config (flat_map csv_line rows)
    ≡ map (λ row. read_back (map csv_field_text row)) rows

-- the line without its line feed is one document, the object of the row
abbrev pub JsonReadsBack : List Column → List Value → Type 0
JsonReadsBack columns row = document (json_object columns row) ≡ Some (json_row columns row)
