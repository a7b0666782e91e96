-- The stream completes the one transcript of its session, whose report has its rows.
use Rattle.std.proofs.Common.{◌≡◌, ℕ, zero, suc, List, [], ◌∷◌, ◌++◌, length, map, codes, ◌==◌, true, false, Some, refl, ap, sym, subst, ◌∙◌, arith, append_assoc, ◌<◌, ◌^◌, ◌%◌}
use Rattle.std.specs.List.{fold, flat_map}
use Rattle.std.specs.List.{All}
use Rattle.std.proofs.lemmas.List.{append-nil, length-map, map-append}
use Rattle.pgw_query.specs.declared.data.DataRow.{DataRow}
use Rattle.pgw_startup.specs.declared.authentication.Authentication.TheVariants as authentication
use Rattle.pgw_query.specs.declared.field_info.FieldInfo.{FieldInfo}
use Rattle.pgw_backend.specs.declared.backend.PgWireBackendMessage.{PgWireBackendMessage as Backend}
use Rattle.pgw_backend.specs.declared.backend.PgWireBackendMessage.TheVariants as backend
use Rattle.pgw_session.specs.declared.stage.Kind.TheVariants as kind
use Rattle.pgw_session.specs.declared.tally.Tally.{Tally}
use Rattle.pgw_query.specs.Fields.{field_info_of}
use Rattle.pgw_wire.specs.Writing.{has_zero, text}
use Rattle.pgw_session.specs.Answers.{answer_by, answers_of, no_tally, tally_at, tally_of}
use Rattle.pgw_session.specs.declared.types.Request.{Request}
use Rattle.pgw_session.specs.Events.{Event, Got, sents, all_events}
use Rattle.pgw_session.specs.Logins.{Unasked}
use Rattle.pgw_session.specs.Segments.{AreTaken, IsRequestSegment, IsStartupSegment}
use Rattle.pgw_session.specs.Standings.{first_standing}
use Rattle.pgw_session.specs.Transcript.{Completes, IsTranscript, SpellsGot, report_of}
use Rattle.pgw_session.specs.Valid.{CanLogIn, HasNoZero, IsValidInput, IsValidRequest}
use Rattle.pgw_session.proofs.LoginTexts.{nonzero_at}
use Rattle.pgw_session.proofs.ValidLaws.{spelled_completes}
use Rattle.pgw_prog_sessions.specs.Summary.{answer_rows, gen_input, gen_query, report_rows}
use Rattle.pgw_prog_sessions.specs.Stream.{IsStream, answer, column, complete, description, stream_end, gen_segments, greeting, messages, next_number, numbers, numbers_behind, query_events, stream_ready, row_of, gen_rows, startup_events}
use Rattle.pgw_prog_sessions.proofs.StreamLaws.{all_spelled, stream_plain}

-- ---- the transcript

startup_stands : (nonce : List ℕ) → IsStartupSegment (gen_input nonce) (startup_events nonce)
startup_stands nonce = (
  map Got greeting,
  refl,
  record {
    news = backend.Authentication authentication.Ok ∷ [];
    login = Unasked;
    rest = Got stream_ready ∷ [];
    are = refl;
    all = (refl, tt);
    accepted = refl;
    ends = record { ms = []; ready = _; are = refl; all = tt };
  },
)

rows_taken : (count : ℕ) (rows : List DataRow)
    → AreTaken kind.Simple true (map backend.DataRow rows ++ complete count ∷ []) false
rows_taken count [] = (false, refl, refl)
rows_taken count (row ∷ rows) = (true, refl, rows_taken count rows)

answer_events : (count : ℕ) (rows : List DataRow)
    → map Got (answer count rows) ≡ map Got (description ∷ (map backend.DataRow rows ++ complete count ∷ [])) ++
    Got stream_ready ∷ []
answer_events count rows =
    ap (λ (l : List Event). Got description ∷ l)
    (map-append Got (map backend.DataRow rows) (stream_end count)
    ∙ sym (append_assoc (map Got (map backend.DataRow rows)) (Got (complete count) ∷ [])
    (Got stream_ready ∷ []))
    ∙ ap (λ (l : List Event). l ++ Got stream_ready ∷ [])
    (sym (map-append Got (map backend.DataRow rows) (complete count ∷ []))))

query_stands : (count : ℕ) (rows : List DataRow) → IsRequestSegment gen_query (query_events count rows)
query_stands count rows = (
  map Got (answer count rows),
  refl,
  record {
    ms = description ∷ (map backend.DataRow rows ++ complete count ∷ []);
    behind = false;
    last = stream_ready;
    rest = [];
    are = answer_events count rows;
    taken = (true, refl, rows_taken count rows);
    ends = refl;
  },
)

transcript : (nonce : List ℕ) (count start : ℕ) → IsTranscript (gen_input nonce) (gen_segments nonce count start)
transcript nonce count start = (startup_stands nonce, (query_stands count (gen_rows count start), tt))

-- ---- the bytes

clean : (t : List ℕ) → has_zero t ≡ false → HasNoZero t
clean t none k d lt is = let no = nonzero_at t k d lt none in let yes = ap (λ b. b == 0) is in absurd cc

one_valid : (q : Request) → IsValidRequest q → All IsValidRequest (q ∷ [])
one_valid q valid zero d lt = valid
one_valid q valid (suc k) d lt = absurd (omega (arith, lt))

valid : (nonce : List ℕ) → IsValidInput (gen_input nonce)
unfolding text
valid nonce = record {
  encryption = λ is. absurd cc;
  binding = λ is. absurd cc;
  application_name = tt;
  user = clean (codes "gen") refl;
  database = tt;
  startup = omega arith;
  requests = one_valid gen_query ((clean (codes "SELECT n") refl, omega arith), tt);
}

none_sent : (ms : List Backend) → sents (map Got ms) ≡ []
none_sent [] = refl
none_sent (m ∷ ms) = none_sent ms

joined_are : (nonce : List ℕ) (count start : ℕ)
    → all_events (gen_segments nonce count start) ≡ startup_events nonce ++ query_events count
    (gen_rows count start)
joined_are nonce count start =
    ap (λ (l : List Event). startup_events nonce ++ l) (append-nil (query_events count (gen_rows count start)))

may_send : (nonce : List ℕ) (count start : ℕ) → CanLogIn (sents (all_events (gen_segments nonce count start)))
may_send nonce count start =
    subst (λ (es : List Event). CanLogIn (sents es)) (sym (joined_are nonce count start))
    (tt, (tt, subst CanLogIn (sym (none_sent (answer count (gen_rows count start)))) tt))

spelled : (nonce : List ℕ) (count start : ℕ) (bytes : List ℕ) → count < 2 ^ 64 → IsStream count start bytes
    → SpellsGot (first_standing (gen_input nonce).config) (all_events (gen_segments nonce count start)) bytes
spelled nonce count start bytes small is =
    subst (λ (es : List Event). SpellsGot (first_standing (gen_input nonce).config) es bytes)
    (sym (joined_are nonce count start))
    (all_spelled (first_standing (gen_input nonce).config) (messages count start) bytes
    (stream_plain count start small) is)

pub stream_completes : (nonce : List ℕ) (count start : ℕ) (bytes : List ℕ) → count < 2 ^ 64
    → IsStream count start bytes
    → Completes (gen_input nonce) (length bytes) bytes (gen_segments nonce count start)
stream_completes nonce count start bytes small is =
    subst (λ (left : List ℕ). Completes (gen_input nonce) (length bytes) left (gen_segments nonce count start))
    (append-nil bytes)
    (spelled_completes (gen_input nonce) (gen_segments nonce count start) bytes [] (valid nonce)
    (transcript nonce count start) (may_send nonce count start) (spelled nonce count start bytes small is))

-- ---- the rows

abbrev opened : List FieldInfo → List DataRow → Tally
opened fields rows = record no_tally { opened = Some (record { fields = fields; rows = rows }) }

rows_tallied : (fields : List FieldInfo) (before rows : List DataRow) (es : List Event)
    → fold tally_at (opened fields before) (map Got (map backend.DataRow rows) ++ es) ≡ fold tally_at
    (opened fields (before ++ rows)) es
rows_tallied fields before [] es =
    ap (λ (l : List DataRow). fold tally_at (opened fields l) es) (sym (append-nil before))
rows_tallied fields before (row ∷ rows) es =
    rows_tallied fields (before ++ row ∷ []) rows es
    ∙ ap (λ (l : List DataRow). fold tally_at (opened fields l) es) (append_assoc before (row ∷ []) rows)

abbrev fields : List FieldInfo
fields = map field_info_of (column ∷ [])

query_tallied : (count : ℕ) (rows : List DataRow)
    → tally_of (query_events count rows) ≡ fold tally_at (opened fields rows)
    (Got (complete count) ∷ Got stream_ready ∷ [])
unfolding tally_of
query_tallied count rows =
    ap (λ (l : List Event). fold tally_at (opened fields []) l)
    (map-append Got (map backend.DataRow rows) (stream_end count))
    ∙ rows_tallied fields [] rows (map Got (stream_end count))

reported : (count : ℕ) (rows : List DataRow)
    → flat_map answer_rows (answers_of (gen_query ∷ []) (query_events count rows ∷ [])) ≡ rows
reported count rows =
    ap (λ t. flat_map answer_rows (answer_by gen_query t ∷ [])) (query_tallied count rows)
    ∙ (append-nil (rows ++ []) ∙ append-nil rows)

pub stream_reported : (nonce : List ℕ) (count start : ℕ)
    → report_rows (report_of (gen_input nonce) (gen_segments nonce count start)) ≡ gen_rows count start
unfolding report_of
stream_reported nonce count start = reported count (gen_rows count start)

pub numbered : (count x : ℕ) → length (numbers_behind count x) ≡ count
numbered zero x = refl
numbered (suc n) x = ap suc (numbered n (next_number x))

pub rows_counted : (count start : ℕ) → length (gen_rows count start) ≡ count
unfolding numbers
rows_counted count start =
    length-map (numbers_behind count (start % 2147483648)) row_of ∙ numbered count (start % 2147483648)
