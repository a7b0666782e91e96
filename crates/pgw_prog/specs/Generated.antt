-- What is printed of a session of any size.
use Rattle.std.specs.Prelude.{◌≡◌, ◌⊎◌, ℕ, List, ◌++◌, length, codes, decimal}
use Rattle.sha2.specs.Sha256.{sha256}
use Rattle.pgw_prog_sessions.specs.declared.summary.GenSummary.{GenSummary}
use Rattle.pgw_prog_sessions.specs.Stream.{IsStream, gen_rows}
use Rattle.pgw_prog_sessions.specs.Summary.{payloads}
use Rattle.pgw_prog.specs.declared.printed.Printed.{Printed}
use Rattle.pgw_prog.specs.Held.{Says}
use Rattle.pgw_prog_sessions.specs.Pieces.{in_hex, line_end}

-- rows N, bytes N, sha256 HEX
unfoldable pub summary_text : GenSummary → ℕ → List ℕ
summary_text summary bytes =
    codes "rows " ++ decimal summary.rows ++ codes "\nbytes " ++ decimal bytes
    ++ codes "\nsha256 " ++ in_hex summary.digest ++ line_end

-- how many rows are asked for, and SHA-256 of the payloads of the rows of the stream
abbrev pub stream_summary : ℕ → ℕ → GenSummary
stream_summary count start =
    record { rows = count; digest = sha256 (payloads (gen_rows count start)) }

-- as stream_summary, with the length of the stream
abbrev pub gen_text : ℕ → ℕ → List ℕ → List ℕ
gen_text count start bytes = summary_text (stream_summary count start) (length bytes)

-- the text of the stream of so many rows that follow from a number
abbrev pub SaysGen : ℕ → ℕ → Printed → Type 0
SaysGen count start p =
    (bytes : List ℕ) × IsStream count start bytes × Says p (gen_text count start bytes) 0

-- memory ran out, or the status is 0 and that text is written
abbrev pub PrintsGen : ℕ → ℕ → List ℕ → List ℕ → ℕ → Type 0
PrintsGen count start before now status =
    (status ≡ 4)
    ⊎ ((status ≡ 0) × ((bytes : List ℕ) × IsStream count start bytes
    × (now ≡ before ++ gen_text count start bytes)))
