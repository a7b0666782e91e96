-- The requests of a session script: a word and values, each behind a single space. SQL is all that is left.
use Rattle.std.specs.Prelude.{ℕ, ℤ, ◌-◌, ◌^◌, List, [], ◌==◌, ◌&&◌, nat_lt, nat_eq, length, codes, Option, Some, None, if◌then◌else◌}
use Rattle.std.specs.List.{list_all}
use Rattle.std.specs.Char.{is_digit}
use Rattle.std.specs.Result.{result_ok}
use Rattle.std.specs.Cmp.Lexicographic.{pointwise}
use Rattle.std.specs.Str.{is_utf8}
use Rattle.std.specs.Str.Parse.{without_leading_sign, signed_digits_value}
use Rattle.hex.specs.Hex.{decode_of}
use Rattle.pgw_types.specs.Numbers.{number_in}
use Rattle.pgw_types.specs.Marks.{before_mark, behind_mark, behind_word, pieces_at}
use Rattle.pgw_config.specs.Numbers.{reach}
use Rattle.pgw_config.specs.Pieces.{all_read}
use Rattle.pgw_session.specs.declared.types.Request.{Request}
use Rattle.pgw_session.specs.declared.types.Request.TheVariants as request
use Rattle.pgw_session.specs.declared.types.Target.{Target}
use Rattle.pgw_session.specs.declared.types.Target.TheVariants as target

-- ---- values

-- the value up to the next space, and what stands behind that
abbrev pub value_by : Option (List ℕ) → List ℕ → Option (List ℕ × List ℕ)
value_by None front = None
value_by (Some rest) front = Some (front, rest)

abbrev pub next_value : List ℕ → Option (List ℕ × List ℕ)
next_value text = value_by (behind_mark 32 text) (before_mark 32 text)

abbrev pub then_value : {A : Type 0}
    → Option (List ℕ × List ℕ) → (List ℕ → List ℕ → Option A) → Option A
then_value None go = None
then_value (Some v) go = go v.0 v.1

abbrev pub make_line : {A B : Type 0} → (A → B) → Option A → Option B
make_line make None = None
make_line make (Some x) = Some (make x)

-- text in UTF-8
unfoldable pub text_in : List ℕ → Option (List ℕ)
text_in bytes = if is_utf8 bytes then Some bytes else None

-- a name is one character or more and no space
abbrev pub word_by : Option (List ℕ) → List ℕ → Option (List ℕ)
word_by (Some rest) bytes = None
word_by None bytes = if length bytes == 0 then None else text_in bytes

unfoldable pub word_in : List ℕ → Option (List ℕ)
word_in bytes = word_by (behind_mark 32 bytes) bytes

-- or a hyphen for none
unfoldable pub name_in : List ℕ → Option (Option (List ℕ))
name_in bytes =
    if pointwise nat_eq bytes (codes "-") then Some None else make_line Some (word_in bytes)

-- a whole number of so many bits: a plus, a minus or none, and decimal digits
unfoldable pub signed_in_line : ℕ → List ℕ → Option ℤ
signed_in_line bits bytes =
    let digits = without_leading_sign bytes in
    if nat_lt 0 (length digits) && (list_all (λ c. is_digit c 10) digits
    && nat_lt (reach (signed_digits_value 10 bytes)) (2 ^ (bits - 1)))
    then Some (signed_digits_value 10 bytes) else None

-- hex digits, two for each byte
unfoldable pub hex_in : List ℕ → Option (List ℕ)
hex_in digits = result_ok (decode_of digits)

-- a parameter is null, or x and hex digits
abbrev pub hex_by : Option (List ℕ) → Option (List ℕ)
hex_by None = None
hex_by (Some digits) = hex_in digits

unfoldable pub parameter_in : List ℕ → Option (Option (List ℕ))
parameter_in bytes =
    if pointwise nat_eq bytes (codes "null") then Some None
    else make_line Some (hex_by (behind_word (codes "x") bytes))

-- a number in text
abbrev pub read_in : {A : Type 0} → (List ℕ → Option A) → Option (List ℕ) → Option A
read_in read None = None
read_in read (Some text) = read text

abbrev pub oid_in : List ℕ → Option ℕ
oid_in bytes = read_in (number_in 32) (text_in bytes)

abbrev pub format_in : List ℕ → Option ℤ
format_in bytes = read_in (signed_in_line 16) (text_in bytes)

abbrev pub row_limit_in : List ℕ → Option ℤ
row_limit_in bytes = read_in (signed_in_line 32) (text_in bytes)

-- elements with commas between them, or a hyphen for none
abbrev pub list_in : {A : Type 0} → (List ℕ → Option A) → List ℕ → Option (List A)
list_in read bytes =
    if pointwise nat_eq bytes (codes "-") then Some [] else all_read read (pieces_at 44 bytes)

-- types, parameters and formats
unfoldable pub oids_in : List ℕ → Option (List ℕ)
oids_in bytes = list_in oid_in bytes

unfoldable pub parameters_in : List ℕ → Option (List (Option (List ℕ)))
parameters_in bytes = list_in parameter_in bytes

unfoldable pub formats_in : List ℕ → Option (List ℤ)
formats_in bytes = list_in format_in bytes

-- ---- requests

-- NAME OIDS SQL
abbrev pub prepare_by :
    Option (Option (List ℕ)) → Option (List ℕ) → Option (List ℕ) → Option Request
prepare_by (Some name) (Some oids) (Some sql) = Some (request.Prepare name sql oids)
prepare_by _ _ _ = None

unfoldable pub prepare_in : List ℕ → Option Request
prepare_in text =
    then_value (next_value text) (λ name rest. then_value (next_value rest) (λ oids sql.
    prepare_by (name_in name) (oids_in oids) (text_in sql)))

-- PORTAL STATEMENT PARAMS FORMATS
abbrev pub bind_by :
    Option (Option (List ℕ)) → Option (Option (List ℕ)) → Option (List (Option (List ℕ)))
    → Option (List ℤ) → Option Request
bind_by (Some portal) (Some statement) (Some parameters) (Some formats) =
    Some (request.Bind portal statement parameters formats)
bind_by _ _ _ _ = None

unfoldable pub bind_in : List ℕ → Option Request
bind_in text =
    then_value (next_value text) (λ portal rest. then_value (next_value rest) (λ statement more.
    then_value (next_value more) (λ parameters formats.
    bind_by (name_in portal) (name_in statement) (parameters_in parameters)
    (formats_in formats))))

-- PORTAL ROWS
abbrev pub execute_by : Option (Option (List ℕ)) → Option ℤ → Option Request
execute_by (Some portal) (Some rows) = Some (request.Execute portal rows)
execute_by _ _ = None

unfoldable pub execute_in : List ℕ → Option Request
execute_in text =
    then_value (next_value text) (λ portal rows. execute_by (name_in portal) (row_limit_in rows))

-- s NAME for a statement, p NAME for a portal
abbrev pub target_by : List ℕ → Option (Option (List ℕ)) → Option Target
target_by kind name =
    if pointwise nat_eq kind (codes "s") then make_line target.Statement name
    else if pointwise nat_eq kind (codes "p") then make_line target.Portal name
    else None

unfoldable pub target_in : List ℕ → Option Target
target_in text = then_value (next_value text) (λ kind name. target_by kind (name_in name))

-- OIDS PARAMS SQL
abbrev pub query_of_line :
    Option (List ℕ) → Option (List (Option (List ℕ))) → Option (List ℕ) → Option Request
query_of_line (Some oids) (Some parameters) (Some sql) = Some (request.Query sql oids parameters)
query_of_line _ _ _ = None

unfoldable pub query_in : List ℕ → Option Request
query_in text =
    then_value (next_value text) (λ oids rest. then_value (next_value rest) (λ parameters sql.
    query_of_line (oids_in oids) (parameters_in parameters) (text_in sql)))

-- what the words say, the first that stands there
abbrev pub behind_or : {A : Type 0} → Option (List ℕ) → (List ℕ → Option A) → Option A → Option A
behind_or None read rest = rest
behind_or (Some value) read rest = read value

-- prepare .., bind .., execute .., query ..
unfoldable pub extended_in : List ℕ → Option Request
extended_in line =
    behind_or (behind_word (codes "prepare ") line) prepare_in
    (behind_or (behind_word (codes "bind ") line) bind_in
    (behind_or (behind_word (codes "execute ") line) execute_in
    (behind_or (behind_word (codes "query ") line) query_in None)))

-- simple SQL, describe .., close .., or another
unfoldable pub request_in : List ℕ → Option Request
request_in line =
    behind_or (behind_word (codes "simple ") line) (λ sql. make_line request.Simple (text_in sql))
    (behind_or (behind_word (codes "describe ") line)
    (λ v. make_line request.Describe (target_in v))
    (behind_or (behind_word (codes "close ") line) (λ v. make_line request.Close (target_in v))
    (extended_in line)))
