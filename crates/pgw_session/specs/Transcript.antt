-- Session transcripts: whole, begun, spelled, reported.
use Rattle.std.specs.Prelude.{◌≡◌, ◌≤◌, ◌⊎◌, ℕ, zero, suc, List, [], ◌∷◌, ◌++◌, length, map, drop, slice_get, Option, Some, None, Ok}
use Rattle.pgw_backend.specs.Front.{Spells}
use Rattle.pgw_frontend.specs.Frontend.{encodings}
use Rattle.pgw_frontend.specs.declared.frontend.PgWireFrontendMessage.{PgWireFrontendMessage as Frontend}
use Rattle.pgw_session.specs.declared.types.Answer.{Answer}
use Rattle.pgw_session.specs.declared.types.Request.{Request}
use Rattle.pgw_session.specs.declared.types.SessionReport.{SessionReport}
use Rattle.pgw_session.specs.declared.standing.Standing.{Standing}
use Rattle.pgw_session.specs.Events.{Event, Sent, Got, sents, all_events}
use Rattle.pgw_session.specs.Standings.{first_standing, standing_by, standing_of}
use Rattle.pgw_session.specs.Requests.{sends_of}
use Rattle.pgw_session.specs.Segments.{IsStartupSegment, IsRequestSegment, IsBegun, startup_message}
use Rattle.pgw_session.specs.Answers.{answers_of}
use Rattle.pgw_session.specs.Input.{Input}

-- ---- transcripts

-- one segment for each request, in order
abbrev pub AreSegments : List Request → List (List Event) → Type 0
AreSegments [] [] = Unit {0}
AreSegments (q ∷ qs) (es ∷ more) = IsRequestSegment q es × AreSegments qs more
AreSegments [] (es ∷ more) = ⊥
AreSegments (q ∷ qs) [] = ⊥

-- the startup segment and then one segment for each request
abbrev pub IsTranscript : Input → List (List Event) → Type 0
IsTranscript input [] = ⊥
IsTranscript input (startup ∷ segments) =
    IsStartupSegment input startup × AreSegments input.requests segments

-- the messages that open a segment: number 0 is the startup segment, and the requests' follow
abbrev pub segment_opening : Option Request → List Frontend
segment_opening None = []
segment_opening (Some q) = sends_of q

abbrev pub opening_at : Input → ℕ → List Frontend
opening_at input zero = startup_message input ∷ []
opening_at input (suc k) = segment_opening (slice_get input.requests k)

-- a joined list that is cut where no opening is: some segments, and of the next nothing, or its opening and more
pub record IsTranscriptPart (input : Input) (es : List Event) : Type 0 where
  pub closed : List (List Event)
  pub part : List Event
  pub rest : List Event
  pub later : List (List Event)
  pub are : es ≡ all_events closed ++ part
  pub transcript : IsTranscript input (closed ++ (part ++ rest) ∷ later)
  pub opening : (part ≡ [])
      ⊎ ((more : List Event) × (part ≡ map Sent (opening_at input (length closed)) ++ more))

-- a joined list
abbrev pub IsJoined : Input → List Event → Type 0
IsJoined input es =
    (segments : List (List Event)) × IsTranscript input segments × (all_events segments ≡ es)

-- nothing at all, or what stands before a login block, whether or not this client can log in
abbrev pub IsEarly : Input → List Event → Type 0
IsEarly input es = (es ≡ []) ⊎ IsBegun input es

-- a legal prefix: something makes it a joined list, and an opening's messages stand in it all or not at all; or it is early
abbrev pub IsLegalPrefix : Input → List Event → Type 0
IsLegalPrefix input es = IsJoined input es ⊎ (IsTranscriptPart input es ⊎ IsEarly input es)

-- ---- bytes

-- the bytes are cut into spellings of the messages got, one after the other, each under the version that stands then
abbrev pub SpellsGot : Standing → List Event → List ℕ → Type 0
SpellsGot s [] bytes = bytes ≡ []
SpellsGot s (Sent m ∷ es) bytes = SpellsGot s es bytes
SpellsGot s (Got m ∷ es) bytes =
    (front rest : List ℕ) × (bytes ≡ front ++ rest) × Spells s.version m front
    × SpellsGot (standing_by s m) es rest

-- the bytes are the encodings of the messages sent, one after the other
abbrev pub EncodesSent : List Event → List ℕ → Type 0
EncodesSent es bytes = encodings (sents es) ≡ Ok bytes

-- ---- reports

-- what the client was told, and some answers
abbrev pub report_with : Standing → List Answer → SessionReport
report_with s answers =
    record {
      version = s.version;
      parameters = s.parameters;
      process_id = s.process_id;
      secret_key
          = s.secret_key;
      status = s.status;
      answers = answers;
    }

-- each answer is that of a request's own segment, in order
unfoldable pub report_of : Input → List (List Event) → SessionReport
report_of input segments =
    report_with (standing_of input.config (all_events segments))
    (answers_of input.requests (drop 1 segments))

-- A completed session: the bytes taken begin with spellings of the messages got, those put out encode those sent,
-- together they are a transcript for that input, and the report is its fold.
pub record Completed (input : Input) (taken sent : List ℕ) (report : SessionReport) : Type 0 where
  pub segments : List (List Event)
  pub transcript : IsTranscript input segments
  pub spelled : List ℕ
  pub rest : List ℕ
  pub begins : taken ≡ spelled ++ rest
  pub got : SpellsGot (first_standing input.config) (all_events segments) spelled
  pub put : EncodesSent (all_events segments) sent
  pub reported : report ≡ report_of input segments

-- The bytes to come begin with bytes, within the limit, that complete a transcript with these segments.
pub record Completes (input : Input) (limit : ℕ) (left : List ℕ) (segments : List (List Event)) :
    Type 0 where
  pub transcript : IsTranscript input segments
  pub bytes : List ℕ
  pub more : List ℕ
  pub begins : left ≡ bytes ++ more
  pub within : length bytes ≤ limit
  pub got : SpellsGot (first_standing input.config) (all_events segments) bytes
  pub sent : List ℕ
  pub put : EncodesSent (all_events segments) sent
