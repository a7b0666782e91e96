-- Values as people are shown them.
use Rattle.std.specs.Prelude.{◌==◌, ℕ, List, codes, chars, Some, None, if◌then◌else◌}
use Rattle.std.specs.List.{flat_map}
use Rattle.std.specs.Char.{is_control, encode_utf8}
use Rattle.std.specs.Str.Lossy.{utf8_lossy}
use Rattle.pgw_prog_output.specs.Columns.{Value}

-- a line feed, a carriage return and a tab as in C, another control character as U+FFFD
unfoldable pub visible : ℕ → List ℕ
visible c =
    if c == 10 then codes "\\n"
    else if c == 13 then codes "\\r"
    else if c == 9 then codes "\\t"
    else if is_control c then encode_utf8 65533
    else encode_utf8 c

abbrev pub without_controls : List ℕ → List ℕ
without_controls text = flat_map visible (chars text)

-- with U+FFFD for what is not UTF-8
unfoldable pub printed_value : Value → List ℕ
printed_value None = codes "NULL"
printed_value (Some bytes) = without_controls (utf8_lossy bytes)
