-- The lines of a pair script: what each says. A line is a word, a space and a value.
use Rattle.std.specs.Prelude.{ℕ, ◌<◌, List, ◌&&◌, nat_le, codes, Option, Some, None, if◌then◌else◌}
use Rattle.std.specs.Result.{result_ok}
use Rattle.hex.specs.Hex.{decode_sized}
use Rattle.pgw_types.specs.Marks.{behind_word}
use Rattle.pgw_machine.specs.declared.event.Event.{Event}
use Rattle.pgw_machine.specs.declared.event.Event.TheVariants as event
use Rattle.pgw_prog_script.specs.Line.{script_number, nonce_in}
use Rattle.pgw_prog_script.specs.RequestLine.{text_in, hex_in, make_line, behind_or}
use Rattle.pgw_prog_script.specs.declared.pair_line.PairLine.{PairLine}
use Rattle.pgw_prog_script.specs.declared.pair_line.PairLine.TheVariants as line

-- 64 hex digits
unfoldable pub words_in : List ℕ → Option (List ℕ)
words_in value = result_ok (decode_sized value 32)

-- a number of 32 bits, from this one on
abbrev pub from_least : ℕ → Option ℕ → Option ℕ
from_least least None = None
from_least least (Some n) = if nat_le least n && nat_le n 4294967295 then Some n else None

unfoldable pub u32_in : ℕ → List ℕ → Option ℕ
u32_in least value = from_least least (script_number value)

-- to-server N, to-client N
unfoldable pub event_in : List ℕ → Option Event
event_in bytes =
    behind_or (behind_word (codes "to-server ") bytes)
    (λ v. make_line event.ToServer (u32_in 0 v))
    (behind_or (behind_word (codes "to-client ") bytes)
    (λ v. make_line event.ToClient (u32_in 0 v))
    None)

-- client-hash HEX, server-hash HEX, or an event
unfoldable pub behind_words : List ℕ → Option PairLine
behind_words bytes =
    behind_or (behind_word (codes "client-hash ") bytes)
    (λ v. make_line line.ClientHash (hex_in v))
    (behind_or (behind_word (codes "server-hash ") bytes)
    (λ v. make_line line.ServerHash (hex_in v))
    (make_line line.Event (event_in bytes)))

-- salt HEX, count N, client HEX, server HEX, words HEX, or a later line
unfoldable pub behind_texts : List ℕ → Option PairLine
behind_texts bytes =
    behind_or (behind_word (codes "salt ") bytes) (λ v. make_line line.Salt (hex_in v))
    (behind_or (behind_word (codes "count ") bytes) (λ v. make_line line.Count (u32_in 1 v))
    (behind_or (behind_word (codes "client ") bytes) (λ v. make_line line.Client (nonce_in v))
    (behind_or (behind_word (codes "server ") bytes) (λ v. make_line line.Server (nonce_in v))
    (behind_or (behind_word (codes "words ") bytes) (λ v. make_line line.Words (words_in v))
    (behind_words bytes)))))

-- user TEXT, password TEXT, stored TEXT, or a later line
unfoldable pub pair_line_of : List ℕ → Option PairLine
pair_line_of bytes =
    behind_or (behind_word (codes "user ") bytes) (λ v. make_line line.User (text_in v))
    (behind_or (behind_word (codes "password ") bytes) (λ v. make_line line.Password (text_in v))
    (behind_or (behind_word (codes "stored ") bytes) (λ v. make_line line.Stored (text_in v))
    (behind_texts bytes)))

-- a count is one or more
abbrev pub HasLineCount : PairLine → Type 0
HasLineCount (line.Count n) = 0 < n
HasLineCount _ = Unit {0}
