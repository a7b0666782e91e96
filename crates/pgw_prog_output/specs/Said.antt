-- What a server's message is in the answer of a query.
use Rattle.std.specs.Prelude.{ℕ, ◌==◌, List, [], ◌∷◌, length, map, if◌then◌else◌, Bool, true, false}
use Rattle.std.specs.Prelude.{pos, Option, Some, None, Result, Ok, Err}
use Rattle.std.specs.List.{list_all}
use Rattle.std.specs.Ordering.{int_eq}
use Rattle.pgw_types.specs.declared.error.PgWireError.{PgWireError}
use Rattle.pgw_wire.specs.Reading.{all_of, list_at, extended_count}
use Rattle.pgw_wire.specs.Values.{nullable_at}
use Rattle.pgw_query.specs.declared.data.DataRow.{DataRow}
use Rattle.pgw_query.specs.declared.data.FieldDescription.{FieldDescription}
use Rattle.pgw_prog_output.specs.declared.columns.Column.{Column}
use Rattle.pgw_prog_output.specs.Columns.{Value, column_kind}
use Rattle.pgw_backend.specs.declared.backend.PgWireBackendMessage.{PgWireBackendMessage as Backend}
use Rattle.pgw_backend.specs.declared.backend.PgWireBackendMessage.TheVariants as backend
use Rattle.pgw_prog_output.specs.declared.said.Said.{Said}
use Rattle.pgw_prog_output.specs.declared.said.Said.TheVariants as said
use Rattle.pgw_prog_output.specs.declared.said.Turn.{Turn}
use Rattle.pgw_prog_output.specs.declared.said.Turn.TheVariants as turn

-- a column has the name and the type that its description tells
abbrev pub column_of : FieldDescription → Column
column_of field = record { name = field.name; kind = column_kind field.type_id }

abbrev pub columns_of : List FieldDescription → List Column
columns_of fields = map column_of fields

-- its values come as text
abbrev pub is_text_field : FieldDescription → Bool
is_text_field field = int_eq field.format_code (pos 0)

-- columns whose values are not all text have no place in the answer of a simple query
abbrev pub columns_said : Bool → List Column → Said
columns_said true columns = said.Columns columns
columns_said false columns = said.Misplaced

-- as many values as the row tells, each its length and its bytes, and nothing behind them
abbrev pub values_of : DataRow → Result (List Value) PgWireError
values_of row = all_of (list_at nullable_at 4 (extended_count row.field_count) row.payload)

-- a row whose bytes are no values has no place
abbrev pub row_said : Result (List Value) PgWireError → Said
row_said (Ok values) = said.Row values
row_said (Err e) = said.Misplaced

-- columns begin a result, and a row is of one; a command was done; the server answers an error;
-- a notice, a parameter and a notification stand beside the answer; it is over; all others have no
-- place in it
abbrev pub said_by : Backend → Said
said_by (backend.RowDescription m) =
    columns_said (list_all is_text_field m.fields) (columns_of m.fields)
said_by (backend.DataRow m) = row_said (values_of m)
said_by (backend.CommandComplete m) = said.Done
said_by (backend.EmptyQueryResponse m) = said.Done
said_by (backend.ErrorResponse m) = said.Failed
said_by (backend.NoticeResponse m) = said.Beside
said_by (backend.ParameterStatus m) = said.Beside
said_by (backend.NotificationResponse m) = said.Beside
said_by (backend.ReadyForQuery m) = said.Ready
said_by m = said.Misplaced

-- ---- what it is in its place

-- a row has as many values as the result that is open has columns, and has no place where none is
-- open
abbrev pub said_row : Option ℕ → List Value → Said
said_row (Some count) values = if length values == count then said.Row values else said.Misplaced
said_row None values = said.Misplaced

abbrev pub placed : Option ℕ → Said → Said
placed opened (said.Row values) = said_row opened values
placed opened s = s

abbrev pub said_rows_in : Option ℕ → Backend → Said
said_rows_in opened m = placed opened (said_by m)

-- how many columns the result has that is open behind it, where one is
abbrev pub open_columns : Option ℕ → Said → Option ℕ
open_columns opened (said.Columns columns) = Some (length columns)
open_columns opened (said.Row values) = opened
open_columns opened said.Beside = opened
open_columns opened s = None

abbrev pub opened_behind : Option ℕ → List Said → Option ℕ
opened_behind opened [] = opened
opened_behind opened (s ∷ more) = opened_behind (open_columns opened s) more

-- what these messages are, one behind the other
abbrev pub said_all : Option ℕ → List Backend → List Said
said_all opened [] = []
said_all opened (m ∷ more) =
    said_rows_in opened m ∷ said_all (open_columns opened (said_rows_in opened m)) more

-- ---- how an answer goes on

abbrev pub said_turn : Said → Turn
said_turn said.Ready = turn.Ready
said_turn said.Misplaced = turn.Misplaced
said_turn (said.Columns columns) = turn.GoesOn
said_turn (said.Row values) = turn.GoesOn
said_turn said.Done = turn.GoesOn
said_turn said.Failed = turn.GoesOn
said_turn said.Beside = turn.GoesOn

abbrev pub is_failed : Said → Bool
is_failed said.Failed = true
is_failed said.Ready = false
is_failed said.Misplaced = false
is_failed (said.Columns columns) = false
is_failed (said.Row values) = false
is_failed said.Done = false
is_failed said.Beside = false
