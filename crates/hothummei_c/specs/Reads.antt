-- What is read of a report.
use Rattle.std.specs.Prelude.{◌≡◌, ◌⊎◌, ◌≤◌, ◌==◌, ℕ, zero, suc, ℤ, pos, negsuc, List, [], ◌∷◌, ◌++◌, length, drop, map, slice_get, Option, Some, None, Result, Ok, Err, Bool, true, false}
use denote.Bor.{Bor}
use Rattle.pgw_query.specs.Fields.{oid_of}
use Rattle.pgw_query.specs.declared.data.DataRow.{DataRow}
use Rattle.pgw_query.specs.declared.field_info.FieldInfo.{FieldInfo}
use Rattle.pgw_query.specs.declared.field_info.FieldFormat.{FieldFormat}
use Rattle.pgw_query.specs.declared.field_info.FieldFormat.TheVariants as format
use Rattle.pgw_query.specs.Rows.{ErrorResponse}
use Rattle.pgw_query.specs.declared.response.TransactionStatus.{TransactionStatus}
use Rattle.pgw_query.specs.declared.response.TransactionStatus.TheVariants as status
use Rattle.pgw_query.specs.declared.tag.Tag.{Tag}
use Rattle.pgw_rows.specs.Rows.{value_at}
use Rattle.pgw_backend.specs.declared.client_error.PgWireClientError.{PgWireClientError as ClientError}
use Rattle.pgw_backend.specs.declared.client_error.PgWireClientError.TheVariants as client
use Rattle.pgw_types.specs.Versions.{version_number as number_of}
use Rattle.std.specs.FinMap as map
use Rattle.std.specs.Int.{w32, cast_unsigned}
use Rattle.hothummei_c.specs.declared.infos.AnswerInfo.{AnswerInfo}
use Rattle.hothummei_c.specs.declared.infos.ColumnInfo.{ColumnInfo}
use Rattle.hothummei_c.specs.declared.infos.Pair.{Pair}
use Rattle.hothummei_c.specs.declared.infos.ResultInfo.{ResultInfo}
use Rattle.hothummei_c.specs.declared.infos.RowInfo.{RowInfo}
use Rattle.hothummei_c.specs.declared.infos.Summary.{Summary}
use Rattle.hothummei_c.specs.declared.infos.TypeInfo.{TypeInfo}
use Rattle.hothummei_c.specs.declared.report.AnswerKind.{AnswerKind}
use Rattle.hothummei_c.specs.declared.report.AnswerKind.TheVariants as kind
use Rattle.hothummei_c.specs.declared.report.CommandResult.{CommandResult}
use Rattle.hothummei_c.specs.declared.report.Report.{Report}
use Rattle.hothummei_c.specs.declared.report.ResultKind.{ResultKind}
use Rattle.hothummei_c.specs.declared.report.ResultKind.TheVariants as shape
use Rattle.hothummei_c.specs.declared.report.Told.{Told}
use Rattle.hothummei_c.specs.declared.session.Session.{Session}
use Rattle.hothummei_c.specs.declared.values.Value.{Value}
use Rattle.hothummei_c.specs.Codes.{no_such_index, out_of_memory, out_of_place, value_missing}
use Rattle.hothummei_c.specs.Values.{HoldsCBytes, TellsAll, TellsValue}

-- ---- numbers

abbrev pub status_number : TransactionStatus → ℕ
status_number status.Idle = 73
status_number status.Transaction = 84
status_number status.Error = 69

abbrev pub kind_number : AnswerKind → ℕ
kind_number kind.Responses = 0
kind_number kind.Prepared = 1
kind_number kind.Bound = 2
kind_number kind.Complete = 3
kind_number kind.Suspended = 4
kind_number kind.Described = 5
kind_number kind.Closed = 6
kind_number kind.Rows = 7
kind_number kind.Remote = 8

abbrev pub shape_number : ResultKind → ℕ
shape_number shape.Nothing = 0
shape_number shape.Rows = 1
shape_number shape.Command = 2

abbrev pub c_format : FieldFormat → ℕ
c_format format.Text = 0
c_format format.Binary = 1

-- ---- what is found

abbrev report_answer_at : Option Report → ℕ → Option Told
report_answer_at None index = None
report_answer_at (Some report) index = slice_get report.answers index

-- the answer to a request
abbrev pub answer_in : Session → ℕ → Option Told
answer_in s index = report_answer_at s.report index

abbrev result_at : Option Told → ℕ → Option CommandResult
result_at None index = None
result_at (Some told) index = slice_get told.results index

-- what one command of it gave
abbrev pub result_in : Session → ℕ → ℕ → Option CommandResult
result_in s answer index = result_at (answer_in s answer) index

abbrev column_at : Option CommandResult → ℕ → Option FieldInfo
column_at None index = None
column_at (Some found) index = slice_get found.fields index

abbrev result_row_at : Option CommandResult → ℕ → Option DataRow
result_row_at None index = None
result_row_at (Some found) index = slice_get found.rows index

abbrev type_at : Option Told → ℕ → Option ℕ
type_at None index = None
type_at (Some told) index = slice_get (map oid_of told.types) index

-- what is there is told, or there is nothing by that number
abbrev pub AnswersIndex : {A : Type 0} → Option A → (A → Type 0) → ℕ → Type 0
AnswersIndex None Is result = result ≡ no_such_index
AnswersIndex (Some a) Is result = (result ≡ 0) × Is a

-- ---- the whole

pub record Summed (report : Report) (out : Summary) : Type 0 where
  pub minor_is : out.minor ≡ (number_of report.version).1
  pub status_is : out.status ≡ status_number report.status
  pub process_is : out.process ≡ cast_unsigned w32 report.process_id
  pub parameters_are : out.parameters ≡ map.len report.parameters
  pub answers_are : out.answers ≡ length report.answers
  pub key_is : HoldsCBytes report.key out.key

abbrev SummedOf : Option Report → Summary → ℕ → Type 0
SummedOf None out result = result ≡ out_of_place
SummedOf (Some report) out result = (result ≡ 0) × Summed report out

abbrev pub SumsUp : Session → Session → Summary → ℕ → Type 0
SumsUp old new out result = (new ≡ old) × SummedOf old.report out result

-- a parameter of the server, by its number in the order of their names
abbrev pub TellsPair : Pair → List ℕ × List ℕ → Type 0
TellsPair out pair = HoldsCBytes pair.0 out.name × HoldsCBytes pair.1 out.value

abbrev PairOf : Option Report → ℕ → Pair → ℕ → Type 0
PairOf None index out result = result ≡ out_of_place
PairOf (Some report) index out result =
    AnswersIndex (slice_get (map.entries report.parameters) index) (TellsPair out) result

abbrev pub FindsPair : Session → Session → ℕ → Pair → ℕ → Type 0
FindsPair old new index out result = (new ≡ old) × PairOf old.report index out result

-- ---- answers

abbrev pub TellsAnswer : AnswerInfo → Told → Type 0
TellsAnswer out told =
    (out.kind ≡ kind_number told.kind) × (out.results ≡ length told.results)
    × (out.types ≡ length told.types)

abbrev pub FindsAnswer : Session → Session → ℕ → AnswerInfo → ℕ → Type 0
FindsAnswer old new index out result =
    (new ≡ old) × AnswersIndex (answer_in old index) (TellsAnswer out) result

abbrev pub FindsType : Session → Session → ℕ → ℕ → TypeInfo → ℕ → Type 0
FindsType old new answer index out result =
    (new ≡ old)
    × AnswersIndex (type_at (answer_in old answer) index) (λ oid. out.oid ≡ oid) result

-- ---- the fields of errors

abbrev field_if : Bool → List ℕ → Option (List ℕ) → Option (List ℕ)
field_if true text other = Some text
field_if false text other = other

-- the text of the first field with this code
abbrev pub first_field : ℕ → List (ℕ × List ℕ) → Option (List ℕ)
first_field code [] = None
first_field code (f ∷ fs) = field_if (f.0 == code) f.1 (first_field code fs)

abbrev error_field_at : Option ErrorResponse → ℕ → Option (List ℕ)
error_field_at None code = None
error_field_at (Some e) code = first_field code e.fields

abbrev pub PutsFieldOf : Option ErrorResponse → ℕ → Value → ℕ → Type 0
PutsFieldOf None code out result = result ≡ out_of_place
PutsFieldOf (Some e) code out result =
    AnswersIndex (first_field code e.fields) (λ text. HoldsCBytes text out) result

abbrev pub error_now : Option (Bor ErrorResponse) → Option ErrorResponse
error_now None = None
error_now (Some e) = Some e.now

abbrev pub PutsField : Option (Bor ErrorResponse) → ℕ → Value → ℕ → Type 0
PutsField error code out result = PutsFieldOf (error_now error) code out result

abbrev FieldOf : Option Told → ℕ → Value → ℕ → Type 0
FieldOf None code out result = result ≡ no_such_index
FieldOf (Some told) code out result = PutsFieldOf told.error code out result

abbrev pub FindsField : Session → Session → ℕ → ℕ → Value → ℕ → Type 0
FindsField old new answer code out result =
    (new ≡ old) × FieldOf (answer_in old answer) code out result

abbrev pub remote_of : Option ClientError → Option ErrorResponse
remote_of (Some (client.RemoteError e)) = Some e
remote_of fault = None

-- of the error that the session failed by
abbrev pub FindsFault : Session → Session → ℕ → Value → ℕ → Type 0
FindsFault old new code out result =
    (new ≡ old) × PutsFieldOf (remote_of old.fault) code out result

-- ---- results

abbrev pub TellsCommand : Option Tag → Value → Type 0
TellsCommand None out = (out.len ≡ 0) × (out.null ≡ 1)
TellsCommand (Some tag) out = HoldsCBytes tag.command out

abbrev pub rows_of_tag : Option Tag → Option ℕ
rows_of_tag None = None
rows_of_tag (Some tag) = tag.rows

-- the tag's number of rows, and whether it has one
abbrev pub CountsAs : Option ℕ → ℕ → ℕ → Type 0
CountsAs None count row_value_count = (count ≡ 0) × (row_value_count ≡ 0)
CountsAs (Some n) count row_value_count = (count ≡ n) × (row_value_count ≡ 1)

pub record TellsResult (found : CommandResult) (out : ResultInfo) : Type 0 where
  pub kind_is : out.kind ≡ shape_number found.kind
  pub columns_are : out.columns ≡ length found.fields
  pub rows_are : out.rows ≡ length found.rows
  pub command_is : TellsCommand found.tag out.command
  pub count_is : CountsAs (rows_of_tag found.tag) out.count out.counted

abbrev pub FindsResult : Session → Session → ℕ → ℕ → ResultInfo → ℕ → Type 0
FindsResult old new answer index out result =
    (new ≡ old)
    × AnswersIndex (result_in old answer index) (λ found. TellsResult found out) result

pub record TellsColumn (field : FieldInfo) (out : ColumnInfo) : Type 0 where
  pub name_is : HoldsCBytes field.name out.name
  pub oid_is : out.oid ≡ oid_of field.datatype
  pub format_is : out.format ≡ c_format field.format

abbrev pub FindsColumn : Session → Session → ℕ → ℕ → ℕ → ColumnInfo → ℕ → Type 0
FindsColumn old new answer number index out result =
    (new ≡ old)
    × AnswersIndex (column_at (result_in old answer number) index)
    (λ field. TellsColumn field out) result

-- ---- rows

abbrev pub led : Option (List ℕ) → Option (List (Option (List ℕ)))
    → Option (List (Option (List ℕ)))
led value None = None
led value (Some values) = Some (value ∷ values)

abbrev pub values_by_cut : Option (Option (List ℕ) × List ℕ)
    → (List ℕ → Option (List (Option (List ℕ)))) → Option (List (Option (List ℕ)))
values_by_cut None more = None
values_by_cut (Some cut) more = led cut.0 (more cut.1)

-- so many values, one behind the other; none where the bytes end within one
abbrev pub values_in : ℕ → List ℕ → Option (List (Option (List ℕ)))
values_in zero bytes = Some []
values_in (suc n) bytes = values_by_cut (value_at bytes) (values_in n)

-- a row tells no number of values below zero
abbrev pub row_value_count : ℤ → ℕ
row_value_count (pos n) = n
row_value_count (negsuc n) = 0

-- one value more is shown
abbrev pub Pushes : List Value → List Value → Value → ℕ → Result ℕ ℕ → Type 0
Pushes old new shown next (Ok at) = (at ≡ next) × (new ≡ old ++ shown ∷ [])
Pushes old new shown next (Err code) = code ≡ out_of_memory

-- one value more is shown, and the next begins there; or the row ends within it, or memory was wanting
abbrev pub PutsNext : List Value → List Value → List ℕ → ℕ → Result ℕ ℕ → Type 0
PutsNext old new row at (Ok next) =
    (value : Option (List ℕ)) × (shown : Value)
    × (value_at (drop at row) ≡ Some (value, drop next row)) × (next ≤ length row)
    × (new ≡ old ++ shown ∷ []) × TellsValue value shown
PutsNext old new row at (Err code) =
    ((code ≡ value_missing) × (value_at (drop at row) ≡ None)) ⊎ (code ≡ out_of_memory)

-- the values are shown, each in its place; or the row does not hold them, or memory was wanting
abbrev pub Shown : Option (List (Option (List ℕ))) → List Value → ℕ → Type 0
Shown None values result = (result ≡ value_missing) ⊎ (result ≡ out_of_memory)
Shown (Some them) values result = ((result ≡ 0) × TellsAll them values) ⊎ (result ≡ out_of_memory)

abbrev pub PutsValues : List Value → ℕ → List ℕ → ℕ → Type 0
PutsValues values count row result = Shown (values_in count row) values result

abbrev ShownRow : Option DataRow → Session → RowInfo → ℕ → Type 0
ShownRow None new out result = result ≡ no_such_index
ShownRow (Some row) new out result =
    Shown (values_in (row_value_count row.field_count) row.payload) new.values.items result
    × (out.count ≡ length new.values.items)

-- the row's values stand in the session, and nothing else of it changes
abbrev pub FindsRow : Session → Session → ℕ → ℕ → ℕ → RowInfo → ℕ → Type 0
FindsRow old new answer number index out result =
    (new ≡ record old { values = new.values })
    × ShownRow (result_row_at (result_in old answer number) index) new out result
