-- The commands, by the words of the command line.
use Rattle.std.specs.Prelude.{◌≡◌, ◌≤◌, ℕ, List, [], ◌∷◌, Bool, true, false, map, nat_eq, nat_lt, nat_le, codes, Option, Some, None, if◌then◌else◌}
use Rattle.std.specs.Cmp.Lexicographic.{pointwise}
use Rattle.pgw_prog.specs.declared.command.Command.{Command}
use Rattle.pgw_prog.specs.declared.command.Command.TheVariants as command
use Rattle.pgw_session.specs.declared.types.Request.{Request}
use Rattle.pgw_session.specs.declared.types.Request.TheVariants as request
use Rattle.pgw_prog_script.specs.Line.{script_number}

abbrev pub command_named : List ℕ → Command
command_named word =
    if pointwise nat_eq word (codes "script") then command.Script
    else if pointwise nat_eq word (codes "pair") then command.Pair
    else if pointwise nat_eq word (codes "relay") then command.Relay
    else if pointwise nat_eq word (codes "pool") then command.Pool
    else if pointwise nat_eq word (codes "--help") then command.Help
    else if pointwise nat_eq word (codes "--version") then command.Version
    else command.Usage

-- a simple query of each text
abbrev pub queries_of : List (List ℕ) → List Request
queries_of texts = map (λ text. request.Simple text) texts

-- a session with this limit, where there is one
abbrev pub connect_with : List ℕ → List (List ℕ) → Option ℕ → Command
connect_with text queries None = command.Usage
connect_with text queries (Some limit) =
    command.Connect (record { text = text; limit = limit; requests = queries_of queries })

-- connect TEXT LIMIT QUERY, with one or more queries
unfoldable pub connect_for : List ℕ → List ℕ → List ℕ → List (List ℕ) → Command
connect_for word text limit queries =
    if pointwise nat_eq word (codes "connect") then connect_with text queries
    (script_number limit) else command.Usage

-- a number, where it is one up to this
abbrev pub within : ℕ → Option ℕ → Option ℕ
within most None = None
within most (Some n) = if nat_le n most then Some n else None

unfoldable pub up_to : ℕ → List ℕ → Option ℕ
up_to most word = within most (script_number word)

-- a session of so many rows that follow from a number
abbrev pub gen_with : Option ℕ → Option ℕ → Command
gen_with (Some rows) (Some start) = command.Gen rows start
gen_with _ _ = command.Usage

-- gen ROWS START, with at most 1000000 rows and a number of 32 bits
unfoldable pub gen_for : List ℕ → List ℕ → List ℕ → Command
gen_for word rows start =
    if pointwise nat_eq word (codes "gen") then gen_with (up_to 1000000 rows)
    (up_to 4294967295 start) else command.Usage

-- the secret of a password, with a count of 1 or more
abbrev pub secret_with : List ℕ → Option ℕ → Command
secret_with password None = command.Usage
secret_with password (Some count) =
    if nat_lt 0 count then command.Secret (record { password = password; count = count })
    else command.Usage

-- secret PASSWORD COUNT, with a count from 1 to 4294967295; or gen
unfoldable pub secret_for : List ℕ → List ℕ → List ℕ → Command
secret_for word password count =
    if pointwise nat_eq word (codes "secret") then secret_with password (up_to 4294967295 count)
    else gen_for word password count

-- a password from a file, with a port of 16 bits
abbrev pub passfile_with : List ℕ → Option ℕ → List ℕ → List ℕ → Command
passfile_with host None database user = command.Usage
passfile_with host (Some port) database user =
    command.Passfile (record { host = host; port = port; database = database; user = user })

-- passfile HOST PORT DATABASE USER; or connect with two queries
unfoldable pub passfile_for : List ℕ → List ℕ → List ℕ → List ℕ → List ℕ → Command
passfile_for word host port database user =
    if pointwise nat_eq word (codes "passfile")
    then passfile_with host (up_to 65535 port) database user
    else connect_for word host port (database ∷ user ∷ [])

-- no word at all asks for a script
unfoldable pub command_for : List (List ℕ) → Command
command_for [] = command.Script
command_for (word ∷ []) = command_named word
command_for (word ∷ text ∷ []) = command.Usage
command_for (word ∷ one ∷ two ∷ []) = secret_for word one two
command_for (word ∷ text ∷ limit ∷ query ∷ []) = connect_for word text limit (query ∷ [])
command_for (word ∷ one ∷ two ∷ three ∷ four ∷ []) = passfile_for word one two three four
command_for (word ∷ text ∷ limit ∷ one ∷ two ∷ three ∷ more) =
    connect_for word text limit (one ∷ two ∷ three ∷ more)

-- the words ask for a session with a server and this limit, with one query or more
pub record IsSessionCommand (words : List (List ℕ)) (limit : ℕ) : Type 0 where
  pub text : List ℕ
  pub number : List ℕ
  pub query : List ℕ
  pub more : List (List ℕ)
  pub are : words ≡ codes "connect" ∷ text ∷ number ∷ query ∷ more
  pub within : script_number number ≡ Some limit

-- whether a command reads standard input
abbrev pub reads_source : Command → Bool
reads_source command.Script = true
reads_source command.Pair = true
reads_source command.Relay = true
reads_source command.Pool = true
reads_source (command.Passfile asked) = true
reads_source _ = false

-- the count of a secret is 1 or more
abbrev pub IsSoundCommand : Command → Type 0
IsSoundCommand (command.Secret asked) = 1 ≤ asked.count
IsSoundCommand _ = Unit {0}
