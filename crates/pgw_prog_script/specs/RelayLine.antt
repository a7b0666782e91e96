-- The lines of a relay script: what each says. A line is a word, a space and a value.
use Rattle.std.specs.Prelude.{ℕ, ◌<◌, ◌==◌, List, [], ◌∷◌, map, codes, Option, Some, None, if◌then◌else◌}
use Rattle.pgw_types.specs.Marks.{behind_word}
use Rattle.pgw_config.specs.Pieces.{all_read}
use Rattle.pgw_proxy.specs.declared.recorded.Side.{Side}
use Rattle.pgw_proxy.specs.declared.recorded.Side.TheVariants as side
use Rattle.pgw_prog_script.specs.Line.{cut_in, bytes_in}
use Rattle.pgw_prog_script.specs.RequestLine.{make_line, behind_or}
use Rattle.pgw_prog_script.specs.declared.relay_line.RelayLine.{RelayLine}
use Rattle.pgw_prog_script.specs.declared.relay_line.RelayLine.TheVariants as line

-- c for the client's side, s for the server's
abbrev pub side_of_letter : ℕ → Option Side
side_of_letter letter =
    if letter == 99 then Some side.Client else if letter == 115 then Some side.Server else None

abbrev pub side_in : List ℕ → Option Side
side_in [] = None
side_in (letter ∷ more) = side_of_letter letter

-- each letter by itself
abbrev pub turns_in : List ℕ → Option (List Side)
turns_in letters = all_read side_in (map (λ letter. letter ∷ []) letters)

-- cut N, or turns and letters
unfoldable pub setting_of : List ℕ → Option RelayLine
setting_of bytes =
    behind_or (behind_word (codes "cut ") bytes) (λ v. make_line line.Cut (cut_in v))
    (behind_or (behind_word (codes "turns ") bytes) (λ v. make_line line.Turns (turns_in v))
    None)

-- client HEX, server HEX, or another line
unfoldable pub relay_line_of : List ℕ → Option RelayLine
relay_line_of bytes =
    behind_or (behind_word (codes "client ") bytes) (λ v. make_line line.Client (bytes_in v))
    (behind_or (behind_word (codes "server ") bytes) (λ v. make_line line.Server (bytes_in v))
    (setting_of bytes))

-- a cut lets a call move a byte
abbrev pub MovesBytes : RelayLine → Type 0
MovesBytes (line.Cut n) = 0 < n
MovesBytes _ = Unit {0}
