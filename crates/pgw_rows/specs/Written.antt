-- What values of a program are written as in a parameter (PostgreSQL 18, chapter 8, Data Types, and section 54.1.3, Formats
-- and Format Codes).
use Rattle.std.specs.Prelude.{◌≡◌, ℕ, ℤ, pos, List, [], ◌∷◌, ◌++◌, codes, Bool, true, false, Option, Some, Result, Ok}
use Rattle.std.specs.Int.{Width, to_be_bytes, cast_unsigned}
use Rattle.std.specs.Option.{option_map}
use Rattle.hex.specs.Hex.{encode_lower}
use Rattle.pgw_query.specs.declared.pg_type.PgType.{PgType}
use Rattle.pgw_query.specs.declared.field_info.FieldFormat.{FieldFormat}
use Rattle.pgw_query.specs.declared.field_info.FieldFormat.TheVariants as formats
use Rattle.pgw_query.specs.declared.row_error.SqlFault.{SqlFault}
use Rattle.pgw_query.specs.Fields.{oid_of}
use Rattle.pgw_rows.specs.declared.parameters.Parameter.{Parameter}

-- boolean (8.6)
abbrev pub bool_binary : Bool → List ℕ
bool_binary true = 1 ∷ []
bool_binary false = 0 ∷ []

abbrev pub bool_text : Bool → List ℕ
bool_text true = codes "t"
bool_text false = codes "f"

-- integers (8.1.1): two's complement, the most significant byte first; as text, decimal digits behind a minus or none
-- (`signed_decimal`)
abbrev pub integer_binary : Width → ℤ → List ℕ
integer_binary w z = to_be_bytes w (cast_unsigned w z)

-- bytea (8.4.1, bytea Hex Format)
abbrev pub octets_text : List ℕ → List ℕ
octets_text bytes = codes "\\x" ++ encode_lower bytes

-- ---- parameters

abbrev pub code_of_format : FieldFormat → ℤ
code_of_format formats.Text = pos 0
code_of_format formats.Binary = pos 1

abbrev pub type_oid : Parameter → ℕ
type_oid p = p.type_oid

abbrev pub format_code : Parameter → ℤ
format_code p = code_of_format p.format

abbrev pub value_bytes : Parameter → Option (List ℕ)
value_bytes p = p.value

abbrev pub text_parameter : PgType → Option (List ℕ) → Parameter
text_parameter ty value = record { type_oid = oid_of ty; format = formats.Text; value = value }

abbrev pub binary_parameter : PgType → Option (List ℕ) → Parameter
binary_parameter ty value =
    record { type_oid = oid_of ty; format = formats.Binary; value = value }

-- ---- a value that is written is read as itself, in either form

pub record IsReadBack {A : Type 0} (ty : PgType) (binary text : A → Option (List ℕ))
    (of_binary of_text : PgType → List ℕ → Result A SqlFault) (x : A) : Type 0 where
  pub from_binary : option_map (of_binary ty) (binary x) ≡ Some (Ok x)
  pub from_text : option_map (of_text ty) (text x) ≡ Some (Ok x)
