-- What a file of passwords answers, as the program prints it.
use Rattle.std.specs.Prelude.{◌≡◌, ℕ, Bool, ◌⊎◌, List, ◌++◌, codes, Option, Some, None}
use Rattle.pgw_secrets.specs.declared.password_file.Entry.{Entry}
use Rattle.pgw_secrets.specs.PasswordFile.{IsFile}
use Rattle.pgw_secrets.specs.Lookup.{answers_for, IsFound}
use Rattle.pgw_prog.specs.declared.printed.Printed.{Printed}
use Rattle.pgw_prog.specs.declared.passfile.Asked.{Asked}
use Rattle.pgw_prog.specs.Held.{Says}
use Rattle.pgw_prog_sessions.specs.Pieces.{in_hex, line_end}
use Rattle.pgw_prog.specs.Transfer.{SourceSpan, TookWhole, TookTooMany}

-- a password in hex, or none
unfoldable pub password_line : Option (List ℕ) → List ℕ
password_line None = codes "none" ++ line_end
password_line (Some password) = codes "password " ++ in_hex password ++ line_end

abbrev pub fits : Asked → Entry → Bool
fits asked = answers_for asked.host asked.port asked.database asked.user

-- the password of the first entry that matches
pub record AnswersFile (asked : Asked) (file : List ℕ) (p : Printed) : Type 0 where
  pub entries : List Entry
  pub answer : Option (List ℕ)
  pub is_file : IsFile file entries
  pub found : IsFound (fits asked) entries answer
  pub says : Says p (password_line answer) 0

-- of a source that gave a whole file; it has at most 16777216 bytes
abbrev pub AnswersPassfile : Asked → SourceSpan → Printed → Type 0
AnswersPassfile asked source p =
    (TookTooMany source.old source.new × Says p (codes "file too long\n") 2)
    ⊎ ((file : List ℕ) × TookWhole source.old source.new file × AnswersFile asked file p)

-- the line of the first entry that matches is written
pub record PrintsPassword (asked : Asked) (file before now : List ℕ) (status : ℕ) : Type 0 where
  pub entries : List Entry
  pub answer : Option (List ℕ)
  pub is_file : IsFile file entries
  pub found : IsFound (fits asked) entries answer
  pub wrote : now ≡ before ++ password_line answer
  pub ends : status ≡ 0

-- that, or memory ran out
abbrev pub PrintsFound : Asked → (file before now : List ℕ) → ℕ → Type 0
PrintsFound asked file before now status =
    (status ≡ 4) ⊎ PrintsPassword asked file before now status
