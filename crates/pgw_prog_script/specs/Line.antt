-- The lines of a session script: what each says. A line is a word, a space and a value.
use Rattle.std.specs.Prelude.{ℕ, ◌<◌, ◌^◌, List, not, ◌==◌, ◌&&◌, nat_lt, nat_le, nat_eq, length, codes, Option, Some, None, if◌then◌else◌}
use Rattle.std.specs.List.{filter}
use Rattle.std.specs.Result.{result_ok}
use Rattle.std.specs.Cmp.Lexicographic.{pointwise}
use Rattle.std.specs.Str.{all_ascii_digits}
use Rattle.std.specs.Str.Parse.{without_leading_plus, digits_value}
use Rattle.hex.specs.Hex.{decode_of, decode_sized}
use Rattle.pgw_types.specs.declared.context.ProtocolVersion.{ProtocolVersion}
use Rattle.pgw_types.specs.declared.context.ProtocolVersion.TheVariants as version
use Rattle.pgw_types.specs.Marks.{behind_word}
use Rattle.pgw_prog_script.specs.RequestLine.{text_in, hex_in, behind_or, request_in}
use Rattle.pgw_prog_script.specs.declared.line.Line.{Line}
use Rattle.pgw_prog_script.specs.declared.line.Line.TheVariants as line

-- digits, and a plus may stand before them; the number has 64 bits
unfoldable pub script_number : List ℕ → Option ℕ
script_number bytes =
    let digits = without_leading_plus bytes in
    if not (length digits == 0) && all_ascii_digits digits
    && nat_lt (digits_value 10 digits) (2 ^ 64)
    then Some (digits_value 10 digits) else None

-- a line's kind, and its value
abbrev pub known : {A : Type 0} → (A → Line) → Option A → Option Line
known make None = None
known make (Some value) = Some (make value)

unfoldable pub version_in : List ℕ → Option ProtocolVersion
version_in value =
    if pointwise nat_eq value (codes "3.0") then Some version.PROTOCOL3_0
    else if pointwise nat_eq value (codes "3.2") then Some version.PROTOCOL3_2
    else if pointwise nat_eq value (codes "3.9999") then Some version.PROTOCOL3_9999
    else None

-- 36 hex digits
unfoldable pub nonce_in : List ℕ → Option (List ℕ)
nonce_in value = result_ok (decode_sized value 18)

-- 1 to 65536
abbrev pub within_cut : Option ℕ → Option ℕ
within_cut None = None
within_cut (Some n) = if nat_le 1 n && nat_le n 65536 then Some n else None

unfoldable pub cut_in : List ℕ → Option ℕ
cut_in value = within_cut (script_number value)

-- hex digits, among which spaces may stand
unfoldable pub bytes_in : List ℕ → Option (List ℕ)
bytes_in value = result_ok (decode_of (filter (λ b. not (b == 32)) value))

-- fail read N, fail write N, server HEX, or a request
unfoldable pub later_line_of : List ℕ → Option Line
later_line_of bytes =
    behind_or (behind_word (codes "fail read ") bytes)
    (λ v. known line.FailRead (script_number v))
    (behind_or (behind_word (codes "fail write ") bytes)
    (λ v. known line.FailWrite (script_number v))
    (behind_or (behind_word (codes "server ") bytes) (λ v. known line.Server (bytes_in v))
    (known line.Request (request_in bytes))))

-- limit N, cut N, or a later line
unfoldable pub bound_of : List ℕ → Option Line
bound_of bytes =
    behind_or (behind_word (codes "limit ") bytes) (λ v. known line.Limit (script_number v))
    (behind_or (behind_word (codes "cut ") bytes) (λ v. known line.Cut (cut_in v))
    (later_line_of bytes))

-- protocol .., certificate HEX, nonce .., or a later line
unfoldable pub setting_of : List ℕ → Option Line
setting_of bytes =
    behind_or (behind_word (codes "protocol ") bytes) (λ v. known line.Protocol (version_in v))
    (behind_or (behind_word (codes "certificate ") bytes) (λ v. known line.Certificate (hex_in v))
    (behind_or (behind_word (codes "nonce ") bytes) (λ v. known line.Nonce (nonce_in v))
    (bound_of bytes)))

-- config TEXT, or another line
unfoldable pub line_of_cut : List ℕ → Option Line
line_of_cut bytes =
    behind_or (behind_word (codes "config ") bytes) (λ v. known line.Config (text_in v))
    (setting_of bytes)

-- a cut lets a call move a byte
abbrev pub CutMovesByte : Line → Type 0
CutMovesByte (line.Cut n) = 0 < n
CutMovesByte _ = Unit {0}
