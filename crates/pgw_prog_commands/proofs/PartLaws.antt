-- One option, and the words behind it.
use Rattle.std.proofs.Common.{◌≡◌, ◌≤◌, ◌<◌, ◌∙◌, ℕ, List, [], ◌∷◌, length, map, drop, get_or, true, false}
use Rattle.std.proofs.Common.{String, Global, string_bytes, Option, Some, None, refl, sym, ap, arith}
use Rattle.std.proofs.lemmas.Bool.{true≢false, false≢true}
use Rattle.pgw_prog_commands.specs.declared.options.Options.{Options}
use Rattle.pgw_prog_commands.specs.declared.options.Flag.{Flag}
use Rattle.pgw_prog_commands.specs.declared.options.Flag.TheVariants as flag
use Rattle.pgw_prog_commands.specs.Options.{WordParts, any, flag_of, options_by_flag, is_no_option, parted, read_as, seconds_in}
use Rattle.pgw_prog_commands.specs.Options.{with_flag, timed, with_timeout}

some_is : (p q : WordParts) → ◌≡◌ {A = Option WordParts} (Some p) (Some q) → p ≡ q
some_is p q e = cc e

not_some : {P : Type 0} (p : WordParts) → ◌≡◌ {A = Option WordParts} None (Some p) → P
not_some p e = absurd (cc e)

-- a time and the words behind it
timed_on : (o : Options) (rest : List (List ℕ)) (s : Option ℕ) (p : WordParts) → with_timeout o rest s ≡ Some p
    → timed o s (λ n. read_as any n rest) ≡ parted p.0 p.1
timed_on o rest None p e = not_some p e
timed_on o rest (Some n) p e = ap (λ (q : WordParts). parted q.0 q.1) (some_is _ p e)

timed_none : (o : Options) (rest : List (List ℕ)) (s : Option ℕ) → with_timeout o rest s ≡ None
    → timed o s (λ n. read_as any n rest) ≡ None
timed_none o rest None e = refl
timed_none o rest (Some n) e = not_some _ (sym e)

taken_on : (o : Options) (word : List ℕ) (rest : List (List ℕ)) (f : Flag) (p : WordParts)
    → with_flag o f rest ≡ Some p
    → options_by_flag o word rest f (λ next n. read_as next n rest) ≡ parted p.0 p.1
unfolding read_as
taken_on o word rest (flag.Format f) p e = ap (λ (q : WordParts). parted q.0 q.1) (some_is _ p e)
taken_on o word [] flag.Passfile p e = not_some p e
taken_on o word (text ∷ rest) flag.Passfile p e = ap (λ (q : WordParts). parted q.0 q.1) (some_is _ p e)
taken_on o word [] flag.Timeout p e = not_some p e
taken_on o word (text ∷ rest) flag.Timeout p e = timed_on o rest (seconds_in text) p e
taken_on o word rest flag.Unknown p e = not_some p e
taken_on o word rest flag.NoOption p e = not_some p e

taken_none : (o : Options) (word : List ℕ) (rest : List (List ℕ)) (f : Flag) → is_no_option f ≡ false
    → with_flag o f rest ≡ None → options_by_flag o word rest f (λ next n. read_as next n rest) ≡ None
unfolding read_as
taken_none o word rest (flag.Format f) other e = not_some _ (sym e)
taken_none o word [] flag.Passfile other e = refl
taken_none o word (text ∷ rest) flag.Passfile other e = not_some _ (sym e)
taken_none o word [] flag.Timeout other e = refl
taken_none o word (text ∷ rest) flag.Timeout other e = timed_none o rest (seconds_in text) e
taken_none o word rest flag.Unknown other e = refl
taken_none o word rest flag.NoOption other e = absurd (true≢false other)

-- an option is read, and the words behind it
option_read : (o : Options) (word : List ℕ) (rest : List (List ℕ)) (f : Flag) (p : WordParts) → f ≡ flag_of word
    → with_flag o f rest ≡ Some p → parted o (word ∷ rest) ≡ parted p.0 p.1
unfolding read_as
option_read o word rest f p is e = rw (← is) (taken_on o word rest f p e)

-- what an option wants is not there
option_refused : (o : Options) (word : List ℕ) (rest : List (List ℕ)) (f : Flag) → f ≡ flag_of word
    → is_no_option f ≡ false → with_flag o f rest ≡ None → parted o (word ∷ rest) ≡ None
unfolding read_as
option_refused o word rest f is other e = rw (← is) (taken_none o word rest f other e)

ended : (o : Options) (word : List ℕ) (rest : List (List ℕ)) (f : Flag) → is_no_option f ≡ true
    → options_by_flag o word rest f (λ next n. read_as next n rest) ≡ Some (o, word ∷ rest)
ended o word rest flag.NoOption e = refl
ended o word rest flag.Passfile e = absurd (false≢true e)
ended o word rest flag.Timeout e = absurd (false≢true e)
ended o word rest (flag.Format f) e = absurd (false≢true e)
ended o word rest flag.Unknown e = absurd (false≢true e)

-- a word that is no option ends them
options_end : (o : Options) (word : List ℕ) (rest : List (List ℕ)) (f : Flag) → f ≡ flag_of word
    → is_no_option f ≡ true → parted o (word ∷ rest) ≡ Some (o, word ∷ rest)
unfolding read_as
options_end o word rest f is other = rw (← is) (ended o word rest f other)

none_left : (o : Options) → parted o [] ≡ Some (o, [])
unfolding read_as
none_left o = refl

-- ---- the same of words as they are passed

abbrev texts : List (String Global) → List (List ℕ)
texts words = map string_bytes words

first_of : (words : List (String Global)) (word : String Global) (text : List ℕ) → 1 ≤ length words
    → word ≡ get_or words 0 word → text ≡ string_bytes word → texts words ≡ text ∷ texts (drop 1 words)
first_of [] word text p e is = absurd (omega (arith, p))
first_of (w ∷ words) word text p e is = rw is (rw e refl)

pub goes_on : (o : Options) (words : List (String Global)) (word : String Global) (text : List ℕ) (f : Flag)
    (p : WordParts)
    → 1 ≤ length words → word ≡ get_or words 0 word → text ≡ string_bytes word → f ≡ flag_of text
    → with_flag o f (texts (drop 1 words)) ≡ Some p → parted o (texts words) ≡ parted p.0 p.1
goes_on o words word text f p some first is named e =
    ap (parted o) (first_of words word text some first is) ∙ option_read o text (texts (drop 1 words)) f p named e

pub refused : (o : Options) (words : List (String Global)) (word : String Global) (text : List ℕ) (f : Flag)
    → 1 ≤ length words → word ≡ get_or words 0 word → text ≡ string_bytes word → f ≡ flag_of text
    → is_no_option f ≡ false → with_flag o f (texts (drop 1 words)) ≡ None → parted o (texts words) ≡ None
refused o words word text f some first is named other e =
    ap (parted o) (first_of words word text some first is)
    ∙ option_refused o text (texts (drop 1 words)) f named other e

pub ends : (o : Options) (words : List (String Global)) (word : String Global) (text : List ℕ) (f : Flag)
    → 1 ≤ length words → word ≡ get_or words 0 word → text ≡ string_bytes word → f ≡ flag_of text
    → is_no_option f ≡ true → parted o (texts words) ≡ Some (o, texts words)
ends o words word text f some first is named other =
    let e = first_of words word text some first is in
    ap (parted o) e ∙ options_end o text (texts (drop 1 words)) f named other
    ∙ ap (λ (t : List (List ℕ)). Some (o, t)) (sym e)

pub ends_there : (o : Options) (words : List (String Global)) → length words < 1
    → parted o (texts words) ≡ Some (o, texts words)
ends_there o [] few = none_left o
ends_there o (w ∷ words) few = absurd (omega (arith, few))
