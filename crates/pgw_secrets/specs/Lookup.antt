-- Which entry of a file of passwords answers.
use Rattle.std.specs.Prelude.{◌≡◌, ℕ, Bool, true, not, ◌&&◌, List, ◌∷◌, ◌++◌, Option, Some, None}
use Rattle.std.specs.Fmt.{decimal}
use Rattle.std.specs.List.{list_all}
use Rattle.std.specs.Str.{bytes_eq}
use Rattle.pgw_secrets.specs.declared.password_file.Entry.{Entry}
use Rattle.pgw_secrets.specs.declared.password_file.Field.{Field}
use Rattle.pgw_secrets.specs.declared.password_file.Field.TheVariants.{Any, Is}

abbrev pub matches : Field → List ℕ → Bool
matches Any text = true
matches (Is value) text = bytes_eq value text

-- host, port as its digits, database and user
abbrev pub answers : List ℕ → List ℕ → List ℕ → List ℕ → Entry → Bool
answers host port database user entry =
    matches entry.host host && (matches entry.port port
    && (matches entry.database database && matches entry.user user))

abbrev pub answers_for : List ℕ → ℕ → List ℕ → List ℕ → Entry → Bool
answers_for host port database user = answers host (decimal port) database user

-- the password of the first entry that passes a test
pub record IsFirstEntry (test : Entry → Bool) (entries : List Entry) (password : List ℕ) : Type 0
  where
    pub front : List Entry
    pub entry : Entry
    pub back : List Entry
    pub cut : entries ≡ front ++ entry ∷ back
    pub earlier : list_all (λ e. not (test e)) front ≡ true
    pub passes : test entry ≡ true
    pub is : password ≡ entry.password

-- this, or none passes it
abbrev pub IsFound : (Entry → Bool) → List Entry → Option (List ℕ) → Type 0
IsFound test entries (Some password) = IsFirstEntry test entries password
IsFound test entries None = list_all (λ e. not (test e)) entries ≡ true
