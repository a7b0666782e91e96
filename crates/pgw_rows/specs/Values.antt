-- What the types of a program read of a value (PostgreSQL 18, chapter 8, Data Types, and section 54.1.3, Formats and Format Codes).
use Rattle.std.specs.Prelude.{ℕ, ℤ, pos, negsuc, ◌^◌, List, [], ◌∷◌, length, drop, slice_index, Bool, true, false, not, ◌&&◌, ◌==◌, nat_lt, if◌then◌else◌, Option, Some, None, Result, Ok, Err}
use Rattle.std.specs.Int.{Width, byte_len, from_be_bytes, cast_signed}
use mir.Val.{hbits}
use Rattle.std.specs.Result.{result_ok}
use Rattle.std.specs.List.{list_any}
use Rattle.std.specs.Str.{all_ascii_digits, is_utf8}
use Rattle.std.specs.Str.Parse.{without_leading_sign, signed_digits_value}
use Rattle.hex.specs.Hex.{decode_of}
use Rattle.pgw_query.specs.declared.pg_type.PgType.{PgType}
use Rattle.pgw_query.specs.declared.pg_type.PgType.TheVariants as types
use Rattle.pgw_query.specs.declared.row_error.SqlFault.{SqlFault}
use Rattle.pgw_query.specs.declared.row_error.SqlFault.TheVariants as faults

-- ---- refusals

-- another type than those that are read
abbrev pub of_type : {A : Type 0} → Bool → PgType → Result A SqlFault → Result A SqlFault
of_type is ty value = if is then value else Err (faults.WrongType ty)

-- another length
abbrev pub of_length : {A : Type 0} → ℕ → A → List ℕ → Result A SqlFault
of_length n value raw =
    if length raw == n then Ok value else Err (faults.WrongLength (length raw))

-- a text that stands for no value
abbrev pub or_bad_text : {A : Type 0} → Option A → Result A SqlFault
or_bad_text None = Err faults.BadText
or_bad_text (Some x) = Ok x

-- ---- boolean (8.6): a byte that is 0 or not, and `t` or `f`

abbrev pub is_bool : PgType → Bool
is_bool types.Bool = true
is_bool ty = false

abbrev pub bool_in : List ℕ → Option Bool
bool_in (c ∷ []) = if c == 116 then Some true else (if c == 102 then Some false else None)
bool_in text = None

abbrev pub bool_of_binary : PgType → List ℕ → Result Bool SqlFault
bool_of_binary ty raw = of_type (is_bool ty) ty (of_length 1 (not (slice_index raw 0 == 0)) raw)

abbrev pub bool_of_text : PgType → List ℕ → Result Bool SqlFault
bool_of_text ty text = of_type (is_bool ty) ty (or_bad_text (bool_in text))

-- ---- integers (8.1.1): two's complement, the most significant byte first; or a sign or none and decimal digits

abbrev pub is_int2 : PgType → Bool
is_int2 types.Int2 = true
is_int2 ty = false

abbrev pub is_int4 : PgType → Bool
is_int4 types.Int4 = true
is_int4 ty = false

abbrev pub is_int8 : PgType → Bool
is_int8 types.Int8 = true
is_int8 ty = false

-- from -2^(bits - 1) to 2^(bits - 1) - 1, where negsuc n is -(n + 1)
abbrev pub is_within : Width → ℤ → Bool
is_within w (pos n) = nat_lt n (2 ^ hbits w)
is_within w (negsuc n) = nat_lt n (2 ^ hbits w)

-- one decimal digit or more, after a plus, a minus or none, and a value within the type
unfoldable pub integer_in : Width → List ℕ → Option ℤ
integer_in w text =
    let digits = without_leading_sign text in
    if nat_lt 0 (length digits) &&
    (all_ascii_digits digits && is_within w (signed_digits_value 10 text)) then Some
    (signed_digits_value 10 text) else None

abbrev pub integer_of_binary : Width → Bool → PgType → List ℕ → Result ℤ SqlFault
integer_of_binary w is ty raw =
    of_type is ty (of_length (byte_len w) (cast_signed w (from_be_bytes w raw)) raw)

abbrev pub integer_of_text : Width → Bool → PgType → List ℕ → Result ℤ SqlFault
integer_of_text w is ty text = of_type is ty (or_bad_text (integer_in w text))

-- ---- character types (8.3), names, and literals of no type yet: UTF-8 in both formats

abbrev pub is_text : PgType → Bool
is_text types.Text = true
is_text types.Varchar = true
is_text types.Bpchar = true
is_text types.Name = true
is_text types.Unknown = true
is_text ty = false

abbrev pub value_text : List ℕ → Option (List ℕ)
value_text raw = if is_utf8 raw then Some raw else None

abbrev pub row_value_text : PgType → List ℕ → Result (List ℕ) SqlFault
row_value_text ty raw = of_type (is_text ty) ty (or_bad_text (value_text raw))

-- a type that no other type of a program reads, whose text form a text holds as it is, by its number in pg_type: json,
-- real and double precision (8.1.3), date, time, timestamp without and with time zone, interval (8.5), numeric (8.1.2),
-- uuid (8.12) and jsonb (8.14)
abbrev pub is_written_out : ℕ → Bool
is_written_out oid =
    list_any (λ number. number == oid)
    (114 ∷ 700 ∷ 701 ∷ 1082 ∷ 1083 ∷ 1114 ∷ 1184 ∷ 1186 ∷ 1700 ∷ 2950 ∷ 3802 ∷ [])

abbrev pub has_text : PgType → Bool
has_text (types.Other oid) = is_written_out oid
has_text ty = is_text ty

abbrev pub text_of_text : PgType → List ℕ → Result (List ℕ) SqlFault
text_of_text ty text = of_type (has_text ty) ty (or_bad_text (value_text text))

-- ---- bytea (8.4.1, bytea Hex Format): the bytes; or `\x` and two hex digits for each, in either case

abbrev pub is_bytea : PgType → Bool
is_bytea types.Bytea = true
is_bytea ty = false

abbrev pub octets_in : List ℕ → Option (List ℕ)
octets_in text =
    if slice_index text 0 == 92 && slice_index text 1 == 120 then result_ok
    (decode_of (drop 2 text)) else None

abbrev pub octets_of_binary : PgType → List ℕ → Result (List ℕ) SqlFault
octets_of_binary ty raw = of_type (is_bytea ty) ty (Ok raw)

abbrev pub octets_of_text : PgType → List ℕ → Result (List ℕ) SqlFault
octets_of_text ty text = of_type (is_bytea ty) ty (or_bad_text (octets_in text))
