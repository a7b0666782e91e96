-- The stored secret of a password, as the program prints it.
use Rattle.std.specs.Prelude.{◌≡◌, ◌⊎◌, ℕ, List, ◌++◌, take}
use Rattle.pgw_secrets.specs.Secret.{secret_of, stored_secret_text}
use Rattle.pgw_prog.specs.declared.printed.Printed.{Printed}
use Rattle.pgw_prog.specs.Held.{Says}
use Rattle.pgw_prog_sessions.specs.Pieces.{line_end}

-- the first 16 of the bytes that were drawn are the salt
abbrev pub secret_line : List ℕ → ℕ → List ℕ → List ℕ
secret_line password count words =
    stored_secret_text (secret_of password (take 16 words) count) ++ line_end

abbrev pub SaysSecret : List ℕ → ℕ → List ℕ → Printed → Type 0
SaysSecret password count words p = Says p (secret_line password count words) 0

-- memory ran out, or the status is 0 and that line is written
abbrev pub PrintsSecret : List ℕ → ℕ → List ℕ → (before now : List ℕ) → ℕ → Type 0
PrintsSecret password count words before now status =
    (status ≡ 4) ⊎ ((status ≡ 0) × (now ≡ before ++ secret_line password count words))
