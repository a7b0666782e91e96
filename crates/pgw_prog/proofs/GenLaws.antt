-- What is printed of a session of any size.
use Rattle.std.proofs.Common.{◌≡◌, ◌<◌, ◌^◌, ◌∙◌, ℕ, List, ◌++◌, length, [], Bool, ◌||◌, nat_lt, false, Some, Result, Ok, Err, refl, ap, subst, inr, arith}
use Rattle.std.proofs.lemmas.Bool.Decides.{nat_tests}
use Rattle.std.specs.Result.{IfOk}
use Rattle.pgw_link.specs.Calls.{is_reached}
use Rattle.pgw_link.specs.Memory.{Making}
use Rattle.pgw_backend.specs.declared.client_error.PgWireClientError.{PgWireClientError as ClientError}
use Rattle.pgw_backend.specs.declared.client_error.PgWireClientError.TheVariants as client
use Rattle.pgw_session.specs.declared.types.SessionReport.{SessionReport}
use Rattle.pgw_session.specs.Transcript.{Completes, report_of}
use Rattle.pgw_client.specs.Session.{AnswersReport}
use Rattle.pgw_prog_sessions.specs.declared.summary.GenSummary.{GenSummary}
use Rattle.sha2.specs.Sha256.{sha256}
use Rattle.pgw_query.specs.declared.data.DataRow.{DataRow}
use Rattle.pgw_prog_sessions.specs.Stream.{IsStream, gen_segments, gen_rows}
use Rattle.pgw_prog_sessions.specs.Summary.{gen_input, payloads, summary_of}
use Rattle.pgw_prog_sessions.proofs.CompletionLaws.{rows_counted, stream_completes, stream_reported}
use Rattle.pgw_types.specs.declared.memory.OutOfMemory.{OutOfMemory}
use Rattle.pgw_prog.specs.declared.printed.Printed.{Printed}
use Rattle.pgw_prog.specs.Held.{Says}
use Rattle.pgw_client.specs.OverLink.{LinkSpan}
use Rattle.pgw_prog.specs.Generated.{PrintsGen, SaysGen, stream_summary, summary_text}
use Rattle.pgw_prog.specs.GenSession.{GivesSummary, OverLinkShortly, TellsSummary}

-- ---- the session of the stream

abbrev sum_of : ℕ → List DataRow → GenSummary
sum_of n rows = record { rows = n; digest = sha256 (payloads rows) }

reports_shortly : (report : SessionReport) (outcome : Result SessionReport ClientError)
    (result : Result GenSummary ClientError)
    → TellsSummary outcome result → AnswersReport report outcome → GivesSummary (summary_of report) result
reports_shortly report (Ok answer) (Ok summary) told is = told ∙ ap summary_of is
reports_shortly report (Ok answer) (Err e) told is = absurd told
reports_shortly report (Err e) (Ok summary) told is = absurd told
reports_shortly report (Err e) (Err f) told is = told ∙ is

summary_is : (nonce : List ℕ) (count start : ℕ)
    → summary_of (report_of (gen_input nonce) (gen_segments nonce count start)) ≡ stream_summary count start
summary_is nonce count start =
    ap (λ (rs : List DataRow). sum_of (length rs) rs) (stream_reported nonce count start)
    ∙ ap (λ (n : ℕ). sum_of n (gen_rows count start)) (rows_counted count start)

-- a session over a link on which no call failed, and whose bytes to come are a stream
pub stream_summed : (nonce bytes : List ℕ) (limit : ℕ) (link : LinkSpan) (result : Result GenSummary ClientError)
    → OverLinkShortly nonce limit (Unit {0}) link result
    → limit ≡ length bytes → link.was ≡ Some bytes → link.before ≡ 0 → nat_lt 0 link.now ≡ false
    → (count start : ℕ) → count < 2 ^ 64 → IsStream count start bytes
    → GivesSummary (stream_summary count start) result
stream_summed nonce bytes limit link result held all left first still count start small is =
    let segments = gen_segments nonce count start in
    let completes : Completes (gen_input nonce) limit bytes segments =
    rw all (stream_completes nonce count start bytes small is) in
    let told = reports_shortly (report_of (gen_input nonce) segments) held.outcome result held.told
    (held.session.reports tt refl bytes left segments completes
    (λ rose. absurd (grind (arith, nat_tests, first, still, rose)))) in
    subst (λ (s : GenSummary). GivesSummary s result) (summary_is nonce count start) told

-- no call of a link in memory that lists none fails, where memory suffices
pub none_failed : (made : Making) (reads writes faults : ℕ) (short : Bool) → made.reads ≡ [] → made.writes ≡ []
    → short ≡ false → nat_lt 0 faults ≡ (is_reached made.reads reads || is_reached made.writes writes || short)
    → nat_lt 0 faults ≡ false
none_failed made reads writes faults short no_reads no_writes enough causes =
    causes ∙ rw (no_reads, no_writes, enough) refl

-- no other error comes
pub not_other : (summary : GenSummary) (result : Result GenSummary ClientError) (e : ClientError)
    → GivesSummary summary result → result ≡ Err e → e ≡ client.OutOfMemory
not_other summary (Ok answer) e gives is = absurd cc
not_other summary (Err f) e gives is = let same : e ≡ f = cc in same ∙ gives

-- and that is told
pub stream_says : (count start len : ℕ) (bytes : List ℕ) (summary : GenSummary) (r : Result Printed OutOfMemory)
    → summary ≡ stream_summary count start → IsStream count start bytes → len ≡ length bytes
    → IfOk r (λ p. Says p (summary_text summary len) 0) → IfOk r (SaysGen count start)
stream_says count start len bytes summary (Err e) is stream all says = tt
stream_says count start len bytes summary (Ok p) is stream all says = (
  bytes,
  stream,
  (
    says.0 ∙ ap (λ (n : ℕ). summary_text summary n) all
        ∙ ap (λ (s : GenSummary). summary_text s (length bytes)) is,
    says.1,
  ),
)

-- behind what was written before
pub generates : (count start : ℕ) (p : Printed) (before now : List ℕ) → SaysGen count start p
    → now ≡ before ++ p.text.items → PrintsGen count start before now p.status
generates count start p before now (bytes, is, says) wrote =
    inr (says.1, (bytes, is, wrote ∙ ap (λ (text : List ℕ). before ++ text) says.0))
