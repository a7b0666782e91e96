-- Rows as lines of JSON (RFC 8259).
use Rattle.std.specs.Prelude.{◌≡◌, ℕ, List, [], ◌∷◌, ◌++◌, Bool, true, false, nat_eq, codes, Option}
use Rattle.std.specs.Prelude.{Some, None, Result, OnOk, if◌then◌else◌}
use Rattle.std.specs.Str.Lossy.{utf8_lossy}
use Rattle.std.specs.Cmp.Lexicographic.{pointwise}
use Rattle.json.specs.Token.{Token}
use Rattle.json.specs.Word.{after_number}
use Rattle.json.specs.Written.{Written}
use Rattle.json.specs.Print.{print}
use Rattle.json.specs.Json.{Json, null, boolean, number, string, object, Members, no_members}
use Rattle.json.specs.Json.{member}
use Rattle.json.specs.Tree.{json_tokens}
use Rattle.pgw_prog_output.specs.declared.columns.ColumnKind.{ColumnKind}
use Rattle.pgw_prog_output.specs.declared.columns.ColumnKind.TheVariants as kind
use Rattle.pgw_prog_output.specs.declared.columns.Column.{Column}
use Rattle.pgw_prog_output.specs.Columns.{Value}

-- whether nothing is left of a text
abbrev pub is_at_end : Option (List ℕ) → Bool
is_at_end None = false
is_at_end (Some []) = true
is_at_end (Some (byte ∷ rest)) = false

-- t and f are true and false
abbrev pub truth_of : List ℕ → Json
truth_of text =
    if pointwise nat_eq text (codes "t") then boolean true
    else if pointwise nat_eq text (codes "f") then boolean false
    else string text

-- a boolean as such, a number as such where JSON can write it, as it can not NaN; all else as a
-- string
abbrev pub json_text : ColumnKind → List ℕ → Json
json_text kind.Truth text = truth_of text
json_text kind.Number text = if is_at_end (after_number text) then number text else string text
json_text kind.Words text = string text

-- with U+FFFD for what is not UTF-8
abbrev pub json_of : ColumnKind → Value → Json
json_of k None = null
json_of k (Some bytes) = json_text k (utf8_lossy bytes)

-- a member for each column that has a value, in order
abbrev pub members_of : List Column → List Value → Members
members_of [] row = no_members
members_of (column ∷ columns) [] = no_members
members_of (column ∷ columns) (value ∷ row) = member column.name (json_of column.kind value)
    (members_of columns row)

abbrev pub json_row : List Column → List Value → Json
json_row columns row = object (members_of columns row)

-- its text, with no blanks
abbrev pub json_object : List Column → List Value → List ℕ
json_object columns row = print (json_tokens (json_row columns row))

-- an object and a line feed
unfoldable pub json_line : List Column → List Value → List ℕ
json_line columns row = json_object columns row ++ (10 ∷ [])

-- ---- for private clauses

-- what stood before stays, and these tokens are added
abbrev pub AddsJsonTokens : {E : Type 0} → Written → Written → Result (Unit {0}) E → List Token
    → Type 0
AddsJsonTokens old new result tokens = OnOk result ((new.before ≡ old.before) × (new.tokens
    ≡ old.tokens ++ tokens))
