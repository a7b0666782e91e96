-- What a field description says of a column.
use Rattle.std.specs.Prelude.{ℕ, ℤ, pos, negsuc, Option, Some, None, ◌==◌, if◌then◌else◌}
use Rattle.pgw_query.specs.declared.data.FieldDescription.{FieldDescription}
use Rattle.pgw_query.specs.declared.field_info.FieldInfo.{FieldInfo}
use Rattle.pgw_query.specs.declared.field_info.FieldFormat.{FieldFormat}
use Rattle.pgw_query.specs.declared.field_info.FieldFormat.TheVariants as formats
use Rattle.pgw_query.specs.declared.pg_type.PgType.{PgType}
use Rattle.pgw_query.specs.declared.pg_type.PgType.TheVariants as types

-- the numbers of types (pg_type)
unfoldable pub type_of : ℕ → PgType
type_of oid =
    if oid == 16 then types.Bool
    else (if oid == 17 then types.Bytea
    else (if oid == 19 then types.Name
    else (if oid == 20 then types.Int8
    else (if oid == 21 then types.Int2
    else (if oid == 23 then types.Int4
    else (if oid == 25 then types.Text
    else (if oid == 705 then types.Unknown
    else (if oid == 1042 then types.Bpchar
    else (if oid == 1043 then types.Varchar
    else types.Other oid)))))))))

abbrev pub oid_of : PgType → ℕ
oid_of types.Bool = 16
oid_of types.Bytea = 17
oid_of types.Name = 19
oid_of types.Int8 = 20
oid_of types.Int2 = 21
oid_of types.Int4 = 23
oid_of types.Text = 25
oid_of types.Unknown = 705
oid_of types.Bpchar = 1042
oid_of types.Varchar = 1043
oid_of (types.Other n) = n

-- an identifier of 0 is none
abbrev pub identifier : ℤ → Option ℤ
identifier (pos n) = if n == 0 then None else Some (pos n)
identifier (negsuc n) = Some (negsuc n)

-- format code 0 is text
abbrev pub format_of : ℤ → FieldFormat
format_of (pos n) = if n == 0 then formats.Text else formats.Binary
format_of (negsuc n) = formats.Binary

unfoldable pub field_info_of : FieldDescription → FieldInfo
field_info_of d = record {
  name = d.name;
  table_id = identifier d.table_id;
  column_id = identifier d.column_id;
  datatype = type_of d.type_id;
  type_size = d.type_size;
  type_modifier = d.type_modifier;
  format = format_of d.format_code;
}
