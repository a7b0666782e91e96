-- The options in front of a command's other words.
use Rattle.std.specs.Prelude.{ℕ, List, [], ◌∷◌, Bool, true, false, nat_eq, nat_lt, codes, Option}
use Rattle.std.specs.Prelude.{Some, None, if◌then◌else◌}
use Rattle.std.specs.List.{starts_with}
use Rattle.std.specs.Cmp.Lexicographic.{pointwise}
use Rattle.pgw_types.specs.Numbers.{number_in}
use Rattle.pgw_prog_output.specs.declared.printer.RowFormat.{RowFormat}
use Rattle.pgw_prog_output.specs.declared.printer.RowFormat.TheVariants as format
use Rattle.pgw_prog_commands.specs.declared.options.Options.{Options}
use Rattle.pgw_prog_commands.specs.declared.options.Flag.{Flag}
use Rattle.pgw_prog_commands.specs.declared.options.Flag.TheVariants as flag

-- what a word is, as an option
unfoldable pub flag_of : List ℕ → Flag
flag_of word =
    if pointwise nat_eq word (codes "--passfile") then flag.Passfile
    else if pointwise nat_eq word (codes "--timeout") then flag.Timeout
    else if pointwise nat_eq word (codes "--csv") then flag.Format format.Csv
    else if pointwise nat_eq word (codes "--json") then flag.Format format.Json
    else if pointwise nat_eq word (codes "--table") then flag.Format format.Table
    else if starts_with nat_eq word (codes "--") then flag.Unknown
    else flag.NoOption

abbrev pub one_or_more : Option ℕ → Option ℕ
one_or_more None = None
one_or_more (Some n) = if nat_lt 0 n then Some n else None

-- a number of 32 bits, 1 or more
unfoldable pub seconds_in : List ℕ → Option ℕ
seconds_in word = one_or_more (number_in 32 word)

abbrev pub no_options : Options
no_options = record { passfile = None; timeout = None; format = None }

-- ---- what stands behind an option: what it says, and the words behind that

abbrev pub WordParts : Type 0
WordParts = Options × List (List ℕ)

abbrev pub with_timeout : Options → List (List ℕ) → Option ℕ → Option WordParts
with_timeout options rest None = None
with_timeout options rest (Some seconds) = Some (record options { timeout = Some seconds }, rest)

abbrev pub with_flag : Options → Flag → List (List ℕ) → Option WordParts
with_flag options (flag.Format f) rest = Some (record options { format = Some f }, rest)
with_flag options flag.Passfile [] = None
with_flag options flag.Passfile (path ∷ rest) =
    Some (record options { passfile = Some path }, rest)
with_flag options flag.Timeout [] = None
with_flag options flag.Timeout (number ∷ rest) = with_timeout options rest (seconds_in number)
with_flag options flag.Unknown rest = None
with_flag options flag.NoOption rest = None

-- ---- the options in front of words, and the words behind them; none where they are outside the
-- grammar

-- what a word is read as: the next option or other word, or what an option before it says
pub data AwaitedWord : Type 0 where
  any : AwaitedWord
  path : AwaitedWord
  number : AwaitedWord

-- whether a word is no option
abbrev pub is_no_option : Flag → Bool
is_no_option flag.NoOption = true
is_no_option flag.Passfile = false
is_no_option flag.Timeout = false
is_no_option (flag.Format f) = false
is_no_option flag.Unknown = false

-- the options so far go on with what stands behind, which the last argument reads
abbrev pub options_by_flag : Options → List ℕ → List (List ℕ) → Flag → (AwaitedWord → Options
    → Option WordParts) → Option WordParts
options_by_flag options word rest (flag.Format f) more =
    more any (record options { format = Some f })
options_by_flag options word rest flag.Passfile more = more path options
options_by_flag options word rest flag.Timeout more = more number options
options_by_flag options word rest flag.Unknown more = None
options_by_flag options word rest flag.NoOption more = Some (options, word ∷ rest)

abbrev pub timed : Options → Option ℕ → (Options → Option WordParts) → Option WordParts
timed options None more = None
timed options (Some seconds) more = more (record options { timeout = Some seconds })

unfoldable pub read_as : AwaitedWord → Options → List (List ℕ) → Option WordParts
read_as any options [] = Some (options, [])
read_as any options (word ∷ rest) =
    options_by_flag options word rest (flag_of word) (λ next o. read_as next o rest)
read_as path options [] = None
read_as path options (word ∷ rest) = read_as any (record options { passfile = Some word }) rest
read_as number options [] = None
read_as number options (word ∷ rest) =
    timed options (seconds_in word) (λ o. read_as any o rest)

abbrev pub parted : Options → List (List ℕ) → Option WordParts
parted options words = read_as any options words
