-- How a reader finds a pair at the front of a text. A text stands here as its characters.
use Rattle.std.specs.Prelude.{ℕ, ◌+◌, List, [], ◌∷◌, ◌++◌, length, drop, Bool, true, false, not, ◌||◌, ◌==◌, Option, Some, None, slice_index, if◌then◌else◌}
use Rattle.std.specs.List.{position, flat_map}
use Rattle.std.specs.Char.{is_whitespace, encode_utf8}
use Rattle.pgw_types.specs.Marks.{text_before}
use Rattle.pgw_config_text.specs.KeyValue.{ends_key, ends_value}

-- ---- cuts

-- what stands from a place on
abbrev pub from : Option ℕ → List ℕ → List ℕ
from None text = []
from (Some n) text = drop n text

-- ---- white space and keys

-- what stands behind the white space at the front
unfoldable pub behind_blank : List ℕ → List ℕ
behind_blank text = from (position (λ c. not (is_whitespace c)) text) text

-- the characters up to the end of a key, and those from there on
unfoldable pub key_at : List ℕ → List ℕ
key_at text = text_before (position ends_key text) text

unfoldable pub behind_key : List ℕ → List ℕ
behind_key text = from (position ends_key text) text

-- ---- values

abbrev pub behind_text : List ℕ → List ℕ × Option ℕ → List ℕ × Option ℕ
behind_text front value = (front ++ value.0, value.1)

-- what a value stands for, and how many characters it has, where one that no backslash escapes ends it. A backslash stands for the character after it
unfoldable pub conninfo_value : (ℕ → Bool) → Bool → ℕ → List ℕ → List ℕ × Option ℕ
conninfo_value ends escaped text_before [] = ([], None)
conninfo_value ends true text_before (c ∷ cs) =
    behind_text (encode_utf8 c) (conninfo_value ends false (text_before + 1) cs)
conninfo_value ends false text_before (c ∷ cs) =
    if c == 92 then conninfo_value ends true (text_before + 1) cs
    else if ends c then ([], Some text_before)
    else behind_text (encode_utf8 c) (conninfo_value ends false (text_before + 1) cs)

-- ---- a pair

-- what stands at the front: nothing but white space, a pair and what is behind it, or neither
pub data PairFront : Type 0 where
  Nothing : PairFront
  Faulty : PairFront
  Pair : List ℕ → List ℕ → List ℕ → PairFront

-- a value in quotes goes up to the quote that ends it
abbrev pub quoted_by : List ℕ → List ℕ → List ℕ × Option ℕ → PairFront
quoted_by key text (value, None) = Faulty
quoted_by key text (value, Some n) = Pair key value (drop (n + 1) text)

-- another value goes up to white space or the end, and is not empty
abbrev pub bare_by : List ℕ → List ℕ → List ℕ × Option ℕ → PairFront
bare_by key text value =
    if length value.0 == 0 then Faulty else Pair key value.0 (from value.1 text)

abbrev pub with_value_at : List ℕ → List ℕ → PairFront
with_value_at key text =
    if slice_index text 0 == 39 then quoted_by key (drop 1 text)
    (conninfo_value (ends_value true) false 0 (drop 1 text))
    else bare_by key text (conninfo_value (ends_value false) false 0 text)

-- behind a key: white space, an equals sign, white space, a value
abbrev pub with_key_at : List ℕ → List ℕ → PairFront
with_key_at key text =
    if length key == 0 || not (slice_index text 0 == 61) then Faulty else with_value_at
    (flat_map encode_utf8 key) (behind_blank (drop 1 text))

abbrev pub from_key : List ℕ → PairFront
from_key text =
    if length text == 0 then Nothing else with_key_at (key_at text)
    (behind_blank (behind_key text))

unfoldable pub conninfo_front : List ℕ → PairFront
conninfo_front text = from_key (behind_blank text)
