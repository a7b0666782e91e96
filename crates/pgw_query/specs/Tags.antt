-- What a command tag says.
use Rattle.std.specs.Prelude.{ℕ, ◌<◌, ◌^◌, List, [], ◌∷◌, ◌++◌, length, fold, Option, Some, None, ◌==◌, if◌then◌else◌, IsTrue, IsUtf8}
use Rattle.std.specs.List.{list_all}
use Rattle.std.specs.Char.{is_whitespace, is_not_whitespace, encode_utf8}
use Rattle.std.specs.Str.{chars}
use Rattle.std.specs.Fmt.{decimal}
use Rattle.pgw_types.specs.Numbers.{number_in}
use Rattle.pgw_query.specs.declared.tag.Tag.{Tag}

-- ---- words

-- the words so far, and the one that goes on
abbrev pub Words : Type 0
Words = List (List ℕ) × List ℕ

-- a word ends, if one goes on
abbrev pub tag_words : Words → List (List ℕ)
tag_words w = if length w.1 == 0 then w.0 else w.0 ++ w.1 ∷ []

abbrev pub with_character : Words → ℕ → Words
with_character w c = if is_whitespace c then (tag_words w, []) else (w.0, w.1 ++ encode_utf8 c)

-- the longest runs of characters that are not white space
unfoldable pub words : List ℕ → List (List ℕ)
words text = tag_words (fold with_character ([], []) (chars text))

-- ---- tags

abbrev pub plain_tag : List ℕ → Tag
plain_tag text = record { command = text; oid = None; rows = None }

abbrev pub counted_tag : List ℕ → List ℕ → Option ℕ → Tag
counted_tag text command None = plain_tag text
counted_tag text command (Some rows) = record { command = command; oid = None; rows = Some rows }

abbrev pub inserted_tag : List ℕ → List ℕ → Option ℕ → Option ℕ → Tag
inserted_tag text command None rows = plain_tag text
inserted_tag text command (Some oid) None = plain_tag text
inserted_tag text command (Some oid) (Some rows) =
    record { command = command; oid = Some oid; rows = Some rows }

-- a command and its rows, or a command, an object ID and its rows; else the whole text is the command
abbrev pub tag_by : List ℕ → List (List ℕ) → Tag
tag_by text [] = plain_tag text
tag_by text (command ∷ []) = plain_tag text
tag_by text (command ∷ rows ∷ []) = counted_tag text command (number_in 64 rows)
tag_by text (command ∷ oid ∷ rows ∷ []) =
    inserted_tag text command (number_in 32 oid) (number_in 64 rows)
tag_by text (a ∷ b ∷ c ∷ d ∷ more) = plain_tag text

unfoldable pub tag_of : List ℕ → Tag
tag_of text = tag_by text (words text)

-- ---- the text of a tag

-- a space and a number, if there is one
abbrev pub spaced : Option ℕ → List ℕ
spaced None = []
spaced (Some n) = 32 ∷ decimal n

-- an object ID without rows is not written
abbrev pub counts : Option ℕ → Option ℕ → List ℕ
counts oid None = []
counts oid (Some rows) = spaced oid ++ spaced (Some rows)

unfoldable pub tag_text : Tag → List ℕ
tag_text tag = tag.command ++ counts tag.oid tag.rows

-- ---- tags that come back

-- one word, without white space
pub record IsWord (text : List ℕ) : Type 0 where
  pub utf8 : IsUtf8 text
  pub some : 0 < length text
  pub whole : IsTrue (list_all is_not_whitespace (chars text))

-- no counts, rows, or an object ID and rows
abbrev pub AreCounts : Option ℕ → Option ℕ → Type 0
AreCounts None None = Unit {0}
AreCounts None (Some rows) = rows < 2 ^ 64
AreCounts (Some oid) None = ⊥
AreCounts (Some oid) (Some rows) = (oid < 2 ^ 32) × (rows < 2 ^ 64)
