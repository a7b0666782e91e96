-- A completed session has no more rows than bytes that were read.
use Rattle.std.proofs.Common.{◌≡◌, ◌<◌, ◌≤◌, ◌+◌, ◌^◌, ℕ, suc, List, [], ◌∷◌, ◌++◌, length, drop, Option, Some, None, Result, Ok, Err, refl, ap, ◌∙◌, arith, length-append}
use Rattle.std.proofs.lemmas.List.{append-nil}
use Rattle.std.proofs.lemmas.Grind.{flat_map-append}
use Rattle.std.specs.List.{flat_map, fold}
use Rattle.std.specs.Result.{IfOk}
use Rattle.pgw_types.specs.declared.context.ProtocolVersion.{ProtocolVersion}
use Rattle.pgw_link.specs.Tape.{Tape, MovedBy}
use Rattle.pgw_query.specs.declared.data.DataRow.{DataRow}
use Rattle.pgw_query.specs.Rows.{ErrorResponse}
use Rattle.pgw_backend.specs.Front.{Spells}
use Rattle.pgw_backend.specs.declared.client_error.PgWireClientError.{PgWireClientError}
use Rattle.pgw_backend.specs.declared.backend.PgWireBackendMessage.{PgWireBackendMessage as Backend}
use Rattle.pgw_backend.specs.declared.backend.PgWireBackendMessage.TheVariants as backend
use Rattle.pgw_backend.proofs.FrontLaws.{front_nil}
use Rattle.pgw_session.specs.declared.standing.Standing.{Standing}
use Rattle.pgw_session.specs.declared.tally.Opened.{Opened}
use Rattle.pgw_session.specs.declared.tally.Tally.{Tally}
use Rattle.pgw_session.specs.declared.types.ExecuteResult.{ExecuteResult}
use Rattle.pgw_session.specs.declared.types.ExecuteResult.TheVariants as execute
use Rattle.pgw_session.specs.declared.types.Request.{Request}
use Rattle.pgw_session.specs.declared.types.Request.TheVariants as request
use Rattle.pgw_session.specs.declared.types.Response.{Response}
use Rattle.pgw_session.specs.declared.types.Response.TheVariants as response
use Rattle.pgw_session.specs.declared.types.SessionReport.{SessionReport}
use Rattle.pgw_session.specs.Answers.{answer_of, answer_with, answers_of, no_tally, tally_with, noted_unless, response_of, result_of, tally_after, tally_at, tally_of, with_end, with_row}
use Rattle.pgw_session.specs.Events.{Event, Sent, Got, all_events}
use Rattle.pgw_session.specs.Input.{Input}
use Rattle.pgw_session.specs.Standings.{first_standing, standing_by}
use Rattle.pgw_session.specs.Transcript.{Completed, SpellsGot, report_of}
use Rattle.pgw_session.proofs.Sound.{spelled_front}
use Rattle.pgw_client.specs.Session.{KeepsPace}
use Rattle.pgw_prog_sessions.specs.Summary.{answer_rows, report_rows, response_rows}

-- how many messages were got
abbrev gots : List Event → ℕ
gots [] = 0
gots (Sent m ∷ es) = gots es
gots (Got m ∷ es) = suc (gots es)

gots_append : (xs ys : List Event) → gots (xs ++ ys) ≡ gots xs + gots ys
gots_append [] ys = omega arith
gots_append (Sent m ∷ xs) ys = gots_append xs ys
gots_append (Got m ∷ xs) ys = let r = gots_append xs ys in omega arith

least : (n : ℕ) → 0 ≤ n
least n = omega arith

same_few : (n : ℕ) → n ≤ n + 1
same_few n = omega arith

from_same : (a b : ℕ) → a ≡ b → a ≤ b + 1
from_same a b is = omega (arith, is)

opened_few : (a b : ℕ) → a + 0 ≤ (a + b) + 1
opened_few a b = omega arith

front_few : (a b : ℕ) → a ≤ a + b
front_few a b = omega arith

-- ---- what a segment gave

abbrev open_rows : Option Opened → ℕ
open_rows None = 0
open_rows (Some opened) = length opened.rows

abbrev given : List Response → ℕ
given responses = length (flat_map response_rows responses)

abbrev held_rows : Tally → ℕ
held_rows t = given t.responses + open_rows t.opened

given_more : (rs : List Response) (r : Response) → given (rs ++ r ∷ []) ≡ given rs + length (response_rows r)
given_more rs r =
    ap length (flat_map-append response_rows rs (r ∷ []))
    ∙ length-append (flat_map response_rows rs) (response_rows r ++ [])
    ∙ ap (λ (n : ℕ). given rs + n) (ap length (append-nil (response_rows r)))

response_same : (o : Option Opened) (tag : List ℕ) → length (response_rows (response_of o tag)) ≡ open_rows o
response_same None tag = refl
response_same (Some opened) tag = refl

end_same : (e : Option (ExecuteResult (List DataRow))) (t : Tally) (r : ExecuteResult (List DataRow))
    → held_rows (with_end e t r) ≡ held_rows t
end_same None t r = refl
end_same (Some first) t r = refl

row_few : (o : Option Opened) (t : Tally) (row : DataRow) → t.opened ≡ o
    → held_rows (with_row o t row) ≤ held_rows t + 1
row_few None t row is = same_few (held_rows t)
row_few (Some opened) t row is =
    let l = length-append opened.rows (row ∷ []) in let o = ap open_rows is in omega arith

-- a command is answered, and closes the result
abbrev closing : Tally → Response → Tally
closing t r = record t { responses = t.responses ++ r ∷ []; opened = None }

abbrev answering : Tally → Response → Tally
answering t r = record t { responses = t.responses ++ r ∷ [] }

few_by : (all now a r o : ℕ) → all ≡ now + 0 → now ≡ a + r → r ≡ o → all ≤ (a + o) + 1
few_by all now a r o e f g = omega (arith, e, f, g)

empty_few : (all now a o : ℕ) → all ≡ now + o → now ≡ a + 0 → all ≤ (a + o) + 1
empty_few all now a o e f = omega (arith, e, f)

noted_few : (t : Tally) (m : Backend) → held_rows (tally_with t m) ≤ held_rows t + 1
noted_few t (backend.RowDescription m) = opened_few (given t.responses) (open_rows t.opened)
noted_few t (backend.DataRow m) = row_few t.opened t m refl
noted_few t (backend.CommandComplete m) = few_by _ _ (given t.responses) _ (open_rows t.opened)
    (end_same t.executed (closing t (response_of t.opened m.tag)) (execute.Complete t.rows))
    (given_more t.responses (response_of t.opened m.tag)) (response_same t.opened m.tag)
noted_few t (backend.EmptyQueryResponse m) = empty_few _ _ (given t.responses) (open_rows t.opened)
    (end_same t.executed (answering t response.EmptyQuery) (execute.Complete t.rows))
    (given_more t.responses response.EmptyQuery)
noted_few t (backend.PortalSuspended m) =
    from_same _ (held_rows t) (end_same t.executed t (execute.Suspended t.rows))
noted_few t m = same_few (held_rows t)

unless_few : (o : Option ErrorResponse) (t : Tally) (m : Backend)
    → held_rows (noted_unless o t m) ≤ held_rows t + 1
unless_few None t m = noted_few t m
unless_few (Some e) t m = same_few (held_rows t)

tally_few : (t : Tally) (es : List Event) → held_rows (fold tally_at t es) ≤ held_rows t + gots es
tally_few t [] = front_few (held_rows t) 0
tally_few t (Sent m ∷ es) = tally_few t es
tally_few t (Got m ∷ es) =
    let r = tally_few (tally_after t m) es in let s = unless_few t.remote t m in omega arith

-- ---- what a session gave

with_few : (o : Option ErrorResponse) (q : Request) (t : Tally)
    → length (answer_rows (answer_with o (result_of q t))) ≤ held_rows t
with_few (Some e) q t = least (held_rows t)
with_few None (request.Simple query) t = front_few (given t.responses) (open_rows t.opened)
with_few None q t = least (held_rows t)

answer_few : (q : Request) (es : List Event) → length (answer_rows (answer_of q es)) ≤ gots es
unfolding tally_of
answer_few q es =
    let t =
    tally_few no_tally es in let w =
    with_few (fold tally_at no_tally es).remote q (fold tally_at no_tally es) in omega arith

answers_few : (qs : List Request) (segments : List (List Event))
    → length (flat_map answer_rows (answers_of qs segments)) ≤ gots (all_events segments)
answers_few [] [] = least 0
answers_few (q ∷ qs) [] = least 0
answers_few [] (es ∷ segments) = least (gots (es ++ all_events segments))
answers_few (q ∷ qs) (es ∷ segments) =
    let r = answers_few qs segments in let a = answer_few q es in
    let l =
    length-append (answer_rows (answer_of q es)) (flat_map answer_rows (answers_of qs segments)) in let g =
    gots_append es (all_events segments) in omega arith

later_few : (segments : List (List Event)) → gots (all_events (drop 1 segments)) ≤ gots (all_events segments)
later_few [] = least 0
later_few (es ∷ segments) = let g = gots_append es (all_events segments) in omega arith

-- ---- of the bytes

spelled_some : (v : ProtocolVersion) (m : Backend) (bytes : List ℕ) → Spells v m bytes → 1 ≤ length bytes
spelled_some v m [] spells = let whole = spelled_front v m [] spells in let more = front_nil v in absurd cc
spelled_some v m (b ∷ bytes) spells = omega arith

got_few : (s : Standing) (es : List Event) (bytes : List ℕ) → SpellsGot s es bytes → gots es ≤ length bytes
got_few s [] bytes spelled = least (length bytes)
got_few s (Sent m ∷ es) bytes spelled = got_few s es bytes spelled
got_few s (Got m ∷ es) bytes (front, rest, are, spells, more) =
    let r =
    got_few (standing_by s m) es rest more in let some =
    spelled_some s.version m front spells in let l =
    ap length are ∙ length-append front rest in omega arith

rows_few : (input : Input) (taken sent : List ℕ) (report : SessionReport) → Completed input taken sent report
    → length (report_rows report) ≤ length taken
unfolding report_of
rows_few input taken sent report c =
    let reported = ap (λ (r : SessionReport). length (report_rows r)) c.reported in
    let rows = answers_few input.requests (drop 1 c.segments) in let later = later_few c.segments in
    let got = got_few (first_standing input.config) (all_events c.segments) c.spelled c.got in
    let all = ap length c.begins ∙ length-append c.spelled c.rest in omega arith

-- so there are not too many to be counted
pub rows_counted : (input : Input) (limit : ℕ) (old new : Tape) (outcome : Result SessionReport PgWireClientError)
    → limit < 2 ^ 64
    → IfOk outcome (λ (report : SessionReport). MovedBy old new
    (λ (taken sent : List ℕ). Completed input taken sent report))
    → MovedBy old new (KeepsPace limit old new)
    → IfOk outcome (λ (report : SessionReport). length (report_rows report) < 2 ^ 64)
rows_counted input limit old new (Err e) small completed paced = tt
rows_counted input limit old new (Ok report) small (taken, sent, took, wrote, completed)
    (all, put, took_all, wrote_all, pace) =
    let few = rows_few input taken sent report completed in let within = pace.within in
    let one =
    ap length took ∙ length-append old.took taken in let other =
    ap length took_all ∙ length-append old.took all in omega arith
