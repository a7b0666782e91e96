-- The words of `query` and of `check`.
use Rattle.std.specs.Prelude.{ℕ, List, [], ◌∷◌, Option, Some, None}
use Rattle.pgw_prog_output.specs.declared.printer.RowFormat.{RowFormat}
use Rattle.pgw_prog_commands.specs.declared.options.Options.{Options}
use Rattle.pgw_prog_commands.specs.declared.command_words.QueryWords.{QueryWords}
use Rattle.pgw_prog_commands.specs.declared.command_words.CheckWords.{CheckWords}
use Rattle.pgw_prog_commands.specs.Options.{WordParts, no_options, parted}

-- a connection text and one query or more
abbrev pub query_words_in : Option WordParts → Option QueryWords
query_words_in None = None
query_words_in (Some (options, [])) = None
query_words_in (Some (options, text ∷ [])) = None
query_words_in (Some (options, text ∷ sql ∷ more)) = Some
    (record { options = options; text = text; queries = sql ∷ more })

abbrev pub query_for : List (List ℕ) → Option QueryWords
query_for words = query_words_in (parted no_options words)

-- without a format, since no rows are printed
abbrev pub check_with : Options → Option RowFormat → List ℕ → Option CheckWords
check_with options None text = Some (record { options = options; text = text })
check_with options (Some f) text = None

-- a connection text alone
abbrev pub check_in : Option WordParts → Option CheckWords
check_in None = None
check_in (Some (options, [])) = None
check_in (Some (options, text ∷ [])) = check_with options options.format text
check_in (Some (options, text ∷ next ∷ more)) = None

abbrev pub check_for : List (List ℕ) → Option CheckWords
check_for words = check_in (parted no_options words)
