-- The printed lines of answers.
use Rattle.std.specs.Prelude.{ℕ, suc, List, [], ◌∷◌, ◌++◌, length, codes, decimal, Option, Some, None}
use Rattle.std.specs.Fmt.{signed_decimal}
use Rattle.std.specs.List.{flat_map}
use Rattle.pgw_query.specs.declared.data.DataRow.{DataRow}
use Rattle.pgw_query.specs.declared.tag.Tag.{Tag}
use Rattle.pgw_query.specs.declared.field_info.FieldInfo.{FieldInfo}
use Rattle.pgw_query.specs.declared.field_info.FieldFormat.{FieldFormat}
use Rattle.pgw_query.specs.declared.field_info.FieldFormat.TheVariants as format
use Rattle.pgw_query.specs.declared.pg_type.PgType.{PgType}
use Rattle.pgw_query.specs.declared.pg_type.PgType.TheVariants as type
use Rattle.pgw_session.specs.declared.types.Response.{Response}
use Rattle.pgw_session.specs.declared.types.Response.TheVariants as response
use Rattle.pgw_session.specs.declared.types.ExecuteResult.{ExecuteResult}
use Rattle.pgw_session.specs.declared.types.ExecuteResult.TheVariants as executed
use Rattle.pgw_session.specs.declared.types.Answer.{Answer}
use Rattle.pgw_session.specs.declared.types.Answer.TheVariants as answer
use Rattle.pgw_prog_sessions.specs.Pieces.{line_end, in_hex, quoted}

-- behind a command: where the rows are known a space and the oid where that is known, a space and the rows
abbrev pub rows_text : Option ℕ → Option ℕ → List ℕ
rows_text oid None = []
rows_text None (Some rows) = codes " " ++ decimal rows
rows_text (Some oid) (Some rows) = codes " " ++ decimal oid ++ codes " " ++ decimal rows

unfoldable pub printed_tag : Tag → List ℕ
printed_tag t = t.command ++ rows_text t.oid t.rows

-- a type's object identifier (pg_type)
unfoldable pub type_number : PgType → ℕ
type_number type.Bool = 16
type_number type.Bytea = 17
type_number type.Name = 19
type_number type.Int8 = 20
type_number type.Int2 = 21
type_number type.Int4 = 23
type_number type.Text = 25
type_number type.Unknown = 705
type_number type.Bpchar = 1042
type_number type.Varchar = 1043
type_number (type.Other n) = n

unfoldable pub format_number : FieldFormat → ℕ
format_number format.Text = 0
format_number format.Binary = 1

-- field "NAME" OID FORMAT
unfoldable pub field_line : FieldInfo → List ℕ
field_line f =
    codes "field " ++ quoted f.name ++ codes " " ++ decimal (type_number f.datatype) ++ codes " "
    ++ decimal (format_number f.format) ++ line_end

-- row COUNT HEX
unfoldable pub row_line : DataRow → List ℕ
row_line r =
    codes "row " ++ signed_decimal r.field_count ++ codes " " ++ in_hex r.payload ++ line_end

-- empty; done "TAG"; or rows "TAG" with a line for each column and each row
unfoldable pub response_lines : Response → List ℕ
response_lines response.EmptyQuery = codes "empty\n"
response_lines (response.Execution tag) = codes "done " ++ quoted (printed_tag tag) ++ line_end
response_lines (response.Query tag fields rows) =
    codes "rows " ++ quoted (printed_tag tag) ++ line_end ++ flat_map field_line fields ++
    flat_map row_line rows

-- item CODE "TEXT"
unfoldable pub item_line : ℕ × List ℕ → List ℕ
item_line item = codes "item " ++ in_hex (item.0 ∷ []) ++ codes " " ++ quoted item.1 ++ line_end

-- a name, or - for none
unfoldable pub name_text : Option (List ℕ) → List ℕ
name_text None = codes "-"
name_text (Some name) = quoted name

abbrev pub oid_text : PgType → List ℕ
oid_text t = decimal (type_number t)

-- object identifiers with commas between them, or - for none
unfoldable pub oids_text : List PgType → List ℕ
oids_text [] = codes "-"
oids_text (t ∷ more) = oid_text t ++ flat_map (λ u. codes "," ++ oid_text u) more

-- a word, how many rows there are, and a line for each
abbrev pub rows_lines : List ℕ → List DataRow → List ℕ
rows_lines word rows = word ++ decimal (length rows) ++ line_end ++ flat_map row_line rows

abbrev pub executed_lines : ExecuteResult (List DataRow) → List ℕ
executed_lines (executed.Complete rows) = rows_lines (codes " complete ") rows
executed_lines (executed.Suspended rows) = rows_lines (codes " suspended ") rows

-- what an answer is, with a line for each response, column, row or field of an error
unfoldable pub told_lines : Answer → List ℕ
told_lines (answer.Responses responses) =
    codes " responses " ++ decimal (length responses) ++ line_end ++ flat_map response_lines
    responses
told_lines (answer.Prepared p) =
    codes " prepared " ++ name_text p.name ++ codes " " ++ oids_text p.param_types ++ line_end
told_lines answer.Bound = codes " bound\n"
told_lines (answer.Executed result) = executed_lines result
told_lines (answer.Described d) =
    codes " described " ++ oids_text d.param_types ++ line_end ++ flat_map field_line d.fields
told_lines answer.Closed = codes " closed\n"
told_lines (answer.Rows rows) = rows_lines (codes " rows ") rows
told_lines (answer.Remote e) = codes " remote\n" ++ flat_map item_line e.fields

-- answer N and what it is
unfoldable pub answer_lines : ℕ → Answer → List ℕ
answer_lines n a = codes "answer " ++ decimal n ++ told_lines a

-- answers are numbered
abbrev pub numbered : ℕ → List Answer → List ℕ
numbered n [] = []
numbered n (a ∷ rest) = answer_lines n a ++ numbered (suc n) rest
