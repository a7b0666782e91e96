-- Rows, and the values in them (PostgreSQL 18, section 54.7, Message Formats, DataRow).
use Rattle.std.specs.Prelude.{◌≡◌, ℕ, ◌+◌, List, [], ◌∷◌, drop, slice_get, Option, Some, None, Result, Ok, Err}
use Rattle.std.specs.Option.{option_copied}
use Rattle.std.specs.Result.{result_ok}
use Rattle.std.specs.Borrow.{Bor}
use Rattle.pgw_wire.specs.Values.{nullable_at}
use Rattle.pgw_query.specs.declared.data.DataRow.{DataRow}
use Rattle.pgw_query.specs.declared.field_info.FieldInfo.{FieldInfo}
use Rattle.pgw_query.specs.declared.field_info.FieldFormat.{FieldFormat}
use Rattle.pgw_query.specs.declared.field_info.FieldFormat.TheVariants as formats
use Rattle.pgw_query.specs.declared.pg_type.PgType.{PgType}
use Rattle.pgw_query.specs.declared.row_error.SqlFault.{SqlFault}
use Rattle.pgw_query.specs.declared.row_error.RowError.{RowError}
use Rattle.pgw_query.specs.declared.row_error.RowError.TheVariants as why

-- ---- rows

-- rows that wait to be read, and their columns
pub record WaitingRows : Type 0 where
  pub fields : List FieldInfo
  pub rows : List DataRow

-- a place in a row: the columns of the row, how many of its values are passed, and the bytes of the others
pub record PlaceInRow : Type 0 where
  pub fields : List FieldInfo
  pub passed : ℕ
  pub bytes : List ℕ

abbrev pub row_start : List FieldInfo → DataRow → PlaceInRow
row_start fields row = record { fields = fields; passed = 0; bytes = row.payload }

-- the first row is given and no longer waits; none is, where none waits
abbrev pub GivesFirst : WaitingRows → Option DataRow → WaitingRows → Type 0
GivesFirst old None new = (old.rows ≡ []) × (new ≡ old)
GivesFirst old (Some row) new = (old.rows ≡ row ∷ new.rows) × (new.fields ≡ old.fields)

-- the rows behind the first
abbrev pub others_of : WaitingRows → WaitingRows
others_of waiting = record waiting { rows = drop 1 waiting.rows }

-- ---- values

-- a value and the bytes behind it: the Int32 number of its bytes, and the bytes; a negative number is NULL and has none
abbrev pub value_at : List ℕ → Option (Option (List ℕ) × List ℕ)
value_at bytes = result_ok (nullable_at bytes)

-- what stands at a place: its column, the value and the bytes behind it
abbrev pub RowPlaceValue : Type 0
RowPlaceValue = FieldInfo × (Option (List ℕ) × List ℕ)

abbrev pub both_values : {A B : Type 0} → Option A → Option B → Option (A × B)
both_values (Some x) (Some y) = Some (x, y)
both_values (Some x) None = None
both_values None y = None

-- none where no column is left, or the bytes end within the value
abbrev pub row_standing : PlaceInRow → Option RowPlaceValue
row_standing place = both_values (slice_get place.fields place.passed) (value_at place.bytes)

-- the place behind a value
abbrev pub row_place_behind : PlaceInRow → List ℕ → PlaceInRow
row_place_behind place rest = record place { passed = place.passed + 1; bytes = rest }

-- ---- answers

-- a call gave what the type reads, or memory ran out where it may
abbrev pub GivesValue : {A : Type 0} → Type 0 → Result A SqlFault → Result A RowError → Type 0
GivesValue Lacks read (Ok x) = read ≡ Ok x
GivesValue Lacks read (Err (why.FromSqlError fault)) = read ≡ Err fault
GivesValue Lacks read (Err why.OutOfMemory) = Lacks
GivesValue Lacks read (Err e) = ⊥

abbrev pub some_of : {A : Type 0} → Result A SqlFault → Result (Option A) SqlFault
some_of (Ok x) = Ok (Some x)
some_of (Err fault) = Err fault

-- where a call comes to that may be refused for want of memory, which leaves its place
abbrev pub behind_unless : {A : Type 0} → Result A RowError → PlaceInRow → List ℕ → PlaceInRow
behind_unless (Err why.OutOfMemory) place rest = place
behind_unless result place rest = row_place_behind place rest

-- a call answers what is read of the value at a place, and leaves the place behind it; NULL is none. Where no value
-- stands it answers so and stays, and so it does where memory is wanting
abbrev pub AnswersRowRead : {A : Type 0} → Type 0 → (FieldInfo → List ℕ → Result A SqlFault)
    → Option RowPlaceValue → PlaceInRow → PlaceInRow → Result (Option A) RowError → Type 0
AnswersRowRead Lacks read None old new result =
    (result ≡ Err why.DataRowIndexOutOfBounds) × (new ≡ old)
AnswersRowRead Lacks read (Some (field, (None, rest))) old new result =
    (result ≡ Ok None) × (new ≡ row_place_behind old rest)
AnswersRowRead Lacks read (Some (field, (Some raw, rest))) old new result =
    GivesValue Lacks (some_of (read field raw)) result × (new ≡ behind_unless result old rest)

abbrev pub in_format : {A : Type 0} → FieldFormat → A → A → A
in_format formats.Binary binary text = binary
in_format formats.Text binary text = text

-- a column's values are read in its format, as its type
abbrev pub read_by : {A : Type 0} → (PgType → List ℕ → Result A SqlFault)
    → (PgType → List ℕ → Result A SqlFault) → FieldInfo → List ℕ → Result A SqlFault
read_by of_binary of_text field raw =
    in_format field.format (of_binary field.datatype raw) (of_text field.datatype raw)

-- an answer that lends bytes, as those bytes
abbrev pub lent_row_value : Result (Option (Bor (List ℕ))) RowError
    → Result (Option (List ℕ)) RowError
lent_row_value (Ok bytes) = Ok (option_copied bytes)
lent_row_value (Err e) = Err e

-- a call lends the value at a place, and leaves the place behind it; NULL is none. Where no value stands it answers so
-- and stays
abbrev pub LendsRowValue : Option RowPlaceValue → PlaceInRow → PlaceInRow
    → Result (Option (List ℕ)) RowError → Type 0
LendsRowValue None old new result = (result ≡ Err why.DataRowIndexOutOfBounds) × (new ≡ old)
LendsRowValue (Some (field, (value, rest))) old new result =
    (result ≡ Ok value) × (new ≡ row_place_behind old rest)
