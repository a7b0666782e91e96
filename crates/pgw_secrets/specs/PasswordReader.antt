-- How a reader finds the entry of a line.
use Rattle.std.specs.Prelude.{◌≡◌, ℕ, ◌+◌, Bool, true, false, not, ◌&&◌, ◌||◌, ◌<◌, length, List, [], ◌∷◌, ◌++◌, Option, Some, None, ◌==◌, ◌⊎◌, slice_index, take, drop, codes, if◌then◌else◌}
use Rattle.std.specs.Str.{bytes_eq}
use Rattle.pgw_secrets.specs.declared.password_file.Entry.{Entry}
use Rattle.pgw_secrets.specs.declared.password_file.Field.{Field}
use Rattle.pgw_secrets.specs.declared.password_file.Field.TheVariants.{Any, Is}
use Rattle.pgw_secrets.specs.Found.{Lacks}
use Rattle.pgw_secrets.specs.PasswordFile.{WritesPassField, is_colon, IsEntry}

-- a colon, and a backslash, that no backslash escapes
abbrev pub is_mark : Bool → ℕ → Bool
is_mark escaped b = not escaped && (b == 58)

abbrev pub is_escape : Bool → ℕ → Bool
is_escape escaped b = not escaped && (b == 92)

abbrev pub is_special : ℕ → Bool
is_special b = (b == 58) || (b == 92)

-- the place of the first of either, or there is none
abbrev pub SpecialAt : List ℕ → Option ℕ → Type 0
SpecialAt text None = Lacks 58 text × Lacks 92 text
SpecialAt text (Some at) = (at < length text) × Lacks 58 (take at text) × Lacks 92 (take at text)

-- the place of the first such colon
unfoldable pub colon_from : Bool → ℕ → List ℕ → Option ℕ
colon_from escaped n [] = None
colon_from escaped n (b ∷ text) =
    if is_mark escaped b then Some n else colon_from (is_escape escaped b) (n + 1) text

-- what is written
unfoldable pub value_from : Bool → List ℕ → List ℕ
value_from escaped [] = []
value_from true (b ∷ text) = b ∷ value_from false text
value_from false (b ∷ text) = if b == 92 then value_from true text else b ∷ value_from false text

abbrev pub password_field : List ℕ → Field
password_field text = if bytes_eq text (codes "*") then Any else Is (value_from false text)

-- a text is a field as it is written, a colon, and what stands behind it
pub record IsCutAtColon (text written behind : List ℕ) : Type 0 where
  pub cut : text ≡ written ++ 58 ∷ behind
  pub writes : WritesPassField is_colon written (value_from false written)

-- or it is none
abbrev pub CutAt : List ℕ → Option (List ℕ × List ℕ) → Type 0
CutAt text (Some (written, behind)) = IsCutAtColon text written behind
CutAt text None = (written behind value : List ℕ) → text ≡ written ++ 58 ∷ behind
    → WritesPassField is_colon written value → ⊥

-- the parts of a line as they are written
pub record EntryParts : Type 0 where
  pub host : List ℕ
  pub port : List ℕ
  pub database : List ℕ
  pub user : List ℕ
  pub password : List ℕ

pub record AreParts (line : List ℕ) (parts : EntryParts) : Type 0 where
  pub behind_host : List ℕ
  pub behind_port : List ℕ
  pub behind_database : List ℕ
  pub first : IsCutAtColon line parts.host behind_host
  pub second : IsCutAtColon behind_host parts.port behind_port
  pub third : IsCutAtColon behind_port parts.database behind_database
  pub fourth : IsCutAtColon behind_database parts.user parts.password

-- or it has fewer than four such colons
abbrev pub CutsIn : List ℕ → Option EntryParts → Type 0
CutsIn line (Some parts) = AreParts line parts
CutsIn line None = (parts : EntryParts) → AreParts line parts → ⊥

abbrev pub PartsIn : List ℕ → Option EntryParts → Type 0
PartsIn line (Some parts) = ((slice_index line 0 == 35) ≡ false) × AreParts line parts
PartsIn line None = (entry : Entry) → IsEntry line entry → ⊥

abbrev pub entry_of : EntryParts → Entry
entry_of parts = record {
  host = password_field parts.host;
  port = password_field parts.port;
  database = password_field parts.database;
  user = password_field parts.user;
  password = value_from false parts.password;
}

-- a line of parts
abbrev pub passfile_line : EntryParts → List ℕ
passfile_line p =
    p.host ++ 58 ∷ (p.port ++ 58 ∷ (p.database ++ 58 ∷ (p.user ++ 58 ∷ p.password)))

-- a text stands at the front of what is left of a file
pub record BeginsFile (text rest : List ℕ) : Type 0 where
  pub behind : List ℕ
  pub cut : rest ≡ text ++ behind

-- the place of the first line feed, or there is none
abbrev pub IsPasswordLineEnd : List ℕ → Option ℕ → Type 0
IsPasswordLineEnd text None = Lacks 10 text
IsPasswordLineEnd text (Some at) =
    Lacks 10 (take at text) × (text ≡ take at text ++ 10 ∷ drop (at + 1) text)

-- a line adds its entry, or is none
abbrev pub AddsPasswordEntry : List ℕ → List Entry → List Entry → Type 0
AddsPasswordEntry line entries more =
    ((entry : Entry) × IsEntry line entry × (more ≡ entries ++ entry ∷ []))
    ⊎ (((entry : Entry) → IsEntry line entry → ⊥) × (more ≡ entries))
