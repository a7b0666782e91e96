-- The session of `gen`, and its rows told shortly.
use Rattle.std.specs.Prelude.{◌≡◌, ◌≤◌, ◌^◌, ℕ, List, [], ◌∷◌, ◌++◌, length, codes, Some}
use Rattle.std.specs.List.{flat_map}
use Rattle.sha2.specs.Sha256.{sha256}
use Rattle.sha2.specs.Hashers.{Holds256}
use Rattle.pgw_query.specs.declared.data.DataRow.{DataRow}
use Rattle.pgw_config.specs.Config.{no_config}
use Rattle.pgw_config.specs.declared.config.Config.{Config}
use Rattle.pgw_session.specs.declared.types.Answer.{Answer}
use Rattle.pgw_session.specs.declared.types.Answer.TheVariants as answer
use Rattle.pgw_session.specs.declared.types.Request.{Request}
use Rattle.pgw_session.specs.declared.types.Request.TheVariants as request
use Rattle.pgw_session.specs.declared.types.Response.{Response}
use Rattle.pgw_session.specs.declared.types.SessionReport.{SessionReport}
use Rattle.pgw_session.specs.Input.{Input, input_with}
use Rattle.pgw_session.specs.Responses.{waiting_rows}
use Rattle.pgw_prog_sessions.specs.declared.summary.GenSummary.{GenSummary}
use Rattle.pgw_prog_sessions.specs.declared.summary.Sum.{Sum}

-- the user is gen, and the one request a simple query
abbrev pub gen_config : Config
gen_config = record no_config { user = Some (codes "gen") }

abbrev pub gen_query : Request
gen_query = request.Simple (codes "SELECT n")

abbrev pub gen_input : List ℕ → Input
gen_input nonce = input_with gen_config (gen_query ∷ []) nonce

-- ---- rows

abbrev pub response_rows : Response → List DataRow
response_rows r = (waiting_rows r).rows

-- a server's error has none
abbrev pub answer_rows : Answer → List DataRow
answer_rows (answer.Responses responses) = flat_map response_rows responses
answer_rows a = []

abbrev pub report_rows : SessionReport → List DataRow
report_rows report = flat_map answer_rows report.answers

abbrev pub payloads : List DataRow → List ℕ
payloads rows = flat_map (λ (row : DataRow). row.payload) rows

-- how many there are, and SHA-256 of their payloads, one behind the other
abbrev pub summary_of : SessionReport → GenSummary
summary_of report =
    record { rows = length (report_rows report); digest = sha256 (payloads (report_rows report)) }

-- ---- rows that are added one after the other

-- a sum is that of these rows
abbrev pub IsSum : Sum → List DataRow → Type 0
IsSum sum rows = (sum.rows ≡ length rows) × Holds256 sum.hasher (payloads rows)

abbrev pub AddsRowsToSum : List DataRow → Sum → Sum → Type 0
AddsRowsToSum more old new = (rows : List DataRow) → IsSum old rows → IsSum new (rows ++ more)

-- with those before them these are more than 64 bits can count
abbrev pub AreTooMany : List DataRow → Sum → Type 0
AreTooMany more sum = (rows : List DataRow) → IsSum sum rows → 2 ^ 64 ≤ length (rows ++ more)
