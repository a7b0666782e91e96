-- Files of passwords (libpq, "The Password File"), as a relation between a whole file and its
-- entries.
use Rattle.std.specs.Prelude.{◌≡◌, ℕ, ◌-◌, Bool, false, ◌&&◌, List, [], ◌∷◌, ◌++◌, length, take, map, nat_lt, slice_index, ◌==◌, if◌then◌else◌}
use Rattle.std.specs.List.{slice_split}
use Rattle.pgw_secrets.specs.declared.password_file.Entry.{Entry}
use Rattle.pgw_secrets.specs.declared.password_file.Field.{Field}
use Rattle.pgw_secrets.specs.declared.password_file.Field.TheVariants.{Any, Is}

-- ---- lines

abbrev pub ends_in_return : List ℕ → Bool
ends_in_return line = nat_lt 0 (length line) && (slice_index line (length line - 1) == 13)

-- without a carriage return at its end
abbrev pub without_return : List ℕ → List ℕ
without_return line = if ends_in_return line then take (length line - 1) line else line

-- what stands between the line feeds
abbrev pub file_lines : List ℕ → List (List ℕ)
file_lines file = map without_return (slice_split (λ b. b == 10) file)

-- ---- values

-- bytes that write a value: each stands for itself, but for one that ends it, and one behind a
-- backslash stands for itself whatever it is
pub data WritesPassField (ends : ℕ → Bool) : List ℕ → List ℕ → Type 0 where
  nothing : WritesPassField ends [] []
  itself : {b : ℕ} {text value : List ℕ} → (b == 92) ≡ false → ends b ≡ false
      → WritesPassField ends text value → WritesPassField ends (b ∷ text) (b ∷ value)
  escaped : {b : ℕ} {text value : List ℕ} → WritesPassField ends text value
      → WritesPassField ends (92 ∷ b ∷ text) (b ∷ value)

abbrev pub is_colon : ℕ → Bool
is_colon b = b == 58

abbrev pub ends_no_password : ℕ → Bool
ends_no_password b = false

-- the one byte * matches everything, another field what it writes
abbrev pub IsPasswordField : List ℕ → Field → Type 0
IsPasswordField text Any = text ≡ 42 ∷ []
IsPasswordField text (Is value) = (text ≡ 42 ∷ [] → ⊥) × WritesPassField is_colon text value

-- in a password a colon stands for itself, and a backslash at the end for nothing
pub data IsPassword : List ℕ → List ℕ → Type 0 where
  whole : {text value : List ℕ} → WritesPassField ends_no_password text value
      → IsPassword text value
  stopped : {body value : List ℕ} → WritesPassField ends_no_password body value
      → IsPassword (body ++ 92 ∷ []) value

-- ---- entries

-- a line is four fields with a colon behind each, and a password
pub record IsEntry (line : List ℕ) (entry : Entry) : Type 0 where
  pub host : List ℕ
  pub port : List ℕ
  pub database : List ℕ
  pub user : List ℕ
  pub password : List ℕ
  pub cut : line ≡ host ++ 58 ∷ (port ++ 58 ∷ (database ++ 58 ∷ (user ++ 58 ∷ password)))
  pub no_comment : (slice_index line 0 == 35) ≡ false
  pub is_host : IsPasswordField host entry.host
  pub is_port : IsPasswordField port entry.port
  pub is_database : IsPasswordField database entry.database
  pub is_user : IsPasswordField user entry.user
  pub is_password : IsPassword password entry.password

-- the entries of lines, in order; a line that is none is passed over
pub data AreEntries : List (List ℕ) → List Entry → Type 0 where
  ended : AreEntries [] []
  passed_over : {line : List ℕ} {lines : List (List ℕ)} {entries : List Entry}
      → ((entry : Entry) → IsEntry line entry → ⊥) → AreEntries lines entries
      → AreEntries (line ∷ lines) entries
  taken : {line : List ℕ} {lines : List (List ℕ)} {entry : Entry} {entries : List Entry}
      → IsEntry line entry → AreEntries lines entries
      → AreEntries (line ∷ lines) (entry ∷ entries)

abbrev pub IsFile : List ℕ → List Entry → Type 0
IsFile file entries = AreEntries (file_lines file) entries
