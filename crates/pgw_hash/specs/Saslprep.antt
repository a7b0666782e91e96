-- Preparation of names and passwords: of RFC 4013 the steps that PostgreSQL's clients rely on.
use Rattle.std.specs.Prelude.{ℕ, List, chars, encode_utf8_all, Option, None, Some, unwrap_or, if◌then◌else◌}
use Rattle.std.specs.List.{list_any}
use Rattle.std.specs.Char.{is_ascii_control}
use Rattle.unicode_normalization.specs.Forms.{nfkc}

-- a text with an ASCII control character (RFC 3454, table C.2.1) is prohibited (RFC 4013, section
-- 2.3); else it is normalized with form KC (section 2.2)
unfoldable pub saslprep : List ℕ → Option (List ℕ)
saslprep text =
    if list_any is_ascii_control (chars text) then None else Some
    (encode_utf8_all (nfkc (chars text)))

-- the text prepared, or as it is where it can't be
abbrev pub saltable : List ℕ → List ℕ
saltable text = unwrap_or (saslprep text) text
