-- A session of any size over a link: what is said of every session, with its report told shortly.
use Rattle.std.specs.Prelude.{◌≡◌, ℕ, List, Result, Ok, Err}
use Rattle.pgw_backend.specs.declared.client_error.PgWireClientError.{PgWireClientError as ClientError}
use Rattle.pgw_backend.specs.declared.client_error.PgWireClientError.TheVariants as client
use Rattle.pgw_session.specs.declared.types.SessionReport.{SessionReport}
use Rattle.pgw_prog_sessions.specs.declared.summary.GenSummary.{GenSummary}
use Rattle.pgw_prog_sessions.specs.Summary.{gen_input, summary_of}
use Rattle.pgw_client.specs.OverLink.{LinkSpan, OverLink}

-- the answer of a session told shortly: the summary of its report, or its error
abbrev pub TellsSummary : Result SessionReport ClientError → Result GenSummary ClientError
    → Type 0
TellsSummary (Ok report) (Ok summary) = summary ≡ summary_of report
TellsSummary (Ok report) (Err e) = ⊥
TellsSummary (Err e) (Ok summary) = ⊥
TellsSummary (Err e) (Err f) = f ≡ e

-- the session of the user gen with its one query was held, and its answer is told shortly
pub record OverLinkShortly (nonce : List ℕ) (limit : ℕ) (foretells : Type 0) (link : LinkSpan)
    (result : Result GenSummary ClientError) : Type 0 where
  pub outcome : Result SessionReport ClientError
  pub session : OverLink (gen_input nonce) limit foretells link outcome
  pub told : TellsSummary outcome result

-- the answer is this summary, or memory was wanting
abbrev pub GivesSummary : GenSummary → Result GenSummary ClientError → Type 0
GivesSummary summary (Ok answer) = answer ≡ summary
GivesSummary summary (Err e) = e ≡ client.OutOfMemory
