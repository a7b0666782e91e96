-- The messages of a transcript lead the conversation to its end.
use Rattle.std.proofs.Common.{◌≡◌, ◌≤◌, ℕ, ◌+◌, zero, suc, List, [], ◌∷◌, ◌++◌, length, map, Some, None, Result, Ok, Err, Option, slice_get, Bool, true, false, inl, inr, arith, refl, sym, ◌∙◌, ap, subst, append_assoc, length-append}
use Rattle.std.proofs.lemmas.List.{append-nil, length_push, map-append}
use Rattle.pgw_types.specs.declared.error.PgWireError.{PgWireError}
use Rattle.pgw_backend.specs.declared.backend.PgWireBackendMessage.{PgWireBackendMessage as Backend}
use Rattle.pgw_frontend.specs.declared.frontend.PgWireFrontendMessage.{PgWireFrontendMessage as Frontend}
use Rattle.pgw_backend.specs.Front.{front, BackendFront, More, Bad, Whole}
use Rattle.pgw_frontend.specs.Frontend.{encodings, both}
use Rattle.pgw_session.specs.declared.types.Request.{Request}
use Rattle.pgw_session.specs.declared.stage.Stage.{Stage}
use Rattle.pgw_session.specs.declared.stage.Stage.TheVariants.{Starting}
use Rattle.pgw_session.specs.declared.stage.Next.{Next}
use Rattle.pgw_session.specs.declared.stage.Next.TheVariants.{Goes, Closes, Wrong, Refuses, PassesOver}
use Rattle.pgw_session.specs.Events.{Event, Sent, Got, all_events, sents}
use Rattle.pgw_session.specs.Standings.{first_standing, standing_of}
use Rattle.pgw_session.specs.Requests.{sends_of}
use Rattle.pgw_session.specs.Segments.{AreAll, IsBegun, IsStartupSegment, startup_message, is_early, is_ready, sends}
use Rattle.pgw_session.specs.Transcript.{AreSegments, IsTranscript, IsLegalPrefix, SpellsGot, EncodesSent}
use Rattle.pgw_machine.specs.Course.{On, Course, Waits, Over, Rules, onto, eat, feed, run}
use Rattle.pgw_session.specs.Reading.{session_front}
use Rattle.pgw_session.specs.Table.{next_after, by_login, news_or, stage_for}
use Rattle.pgw_session.specs.Machine.{Outcome, Complete, Unencoded, sending}
use Rattle.pgw_session.proofs.Moves.{moves, opens, opening, passing, turn}
use Rattle.pgw_session.specs.Talk.{Talk, Ending, said, heard_of, talk_rules, beginning, conversation, whole_talk, HasRefused, EndsByGot}
use Rattle.pgw_machine.proofs.CourseLaws.{run_over}
use Rattle.pgw_session.proofs.Hears.{hear, hears, hear_append, hear_over, hear_one, gots, gots_append, gots_sends, gots_gots, sents_append, sents_sends, spelled_onto}
use Rattle.pgw_session.proofs.Events.{encodings_append, joined_cut, talk_follows, first_sends}
use Rattle.pgw_session.proofs.Grammar.{Rest, RestBy, rest_by, rest_nil, rest_sent}
use Rattle.pgw_session.specs.Logins.{must_bind}
use Rattle.pgw_session.specs.Input.{Input}

-- A course comes where it should, if the messages sent on the way have encodings; else it ends at one that has none.
abbrev pub Fares : (List ℕ → Course Talk Ending) → Course Talk Ending → List ℕ → Result (List ℕ) PgWireError
    → Type 0
Fares target course sent (Ok out) = course ≡ target (sent ++ out)
Fares target course sent (Err why) =
    (e : Ending) × (s : List ℕ) × (course ≡ Over e s) × (e.outcome ≡ Unencoded why)

-- and goes on from there
fares_on : (rules : Rules Talk Ending Backend PgWireError) (target next : List ℕ → Course Talk Ending)
    (course : Course Talk Ending) (sent : List ℕ) (ms : List Backend) (a b : Result (List ℕ) PgWireError)
    → Fares target course sent a → ((w : List ℕ) → Fares next (hear rules (target w) ms) w b)
    → Fares next (hear rules course ms) sent (both a b)
fares_on rules target next course sent ms (Err why) b f g =
    (f.0, f.1, ap (λ c. hear rules c ms) f.2 ∙ hear_over rules f.0 f.1 ms, f.3)
fares_on rules target next course sent ms (Ok a) (Err why) f g =
    let h = g (sent ++ a) in (h.0, h.1, ap (λ c. hear rules c ms) f ∙ h.2, h.3)
fares_on rules target next course sent ms (Ok a) (Ok b) f g =
    ap (λ c. hear rules c ms) f ∙ g (sent ++ a) ∙ ap next (append_assoc sent a b)

fares_same : (target : List ℕ → Course Talk Ending) (course other : Course Talk Ending) (sent : List ℕ)
    (o p : Result (List ℕ) PgWireError)
    → other ≡ course → p ≡ o → Fares target course sent o → Fares target other sent p
fares_same target course other sent o p c e f =
    subst (λ x. Fares target other sent x) (sym e) (subst (λ x. Fares target x sent o) (sym c) f)

fares_sent : (target : List ℕ → Course Talk Ending) (course : Course Talk Ending) (sent b : List ℕ)
    (o : Result (List ℕ) PgWireError)
    → Fares target course (sent ++ b) o → Fares target course sent (both (Ok b) o)
fares_sent target course sent b (Err why) f = f
fares_sent target course sent b (Ok out) f = f ∙ ap target (append_assoc sent b out)

-- messages that fall due
sending_fares : (rules : Rules Talk Ending Backend PgWireError) (target : List ℕ → Course Talk Ending)
    (before behind : Talk) (sent : List ℕ) (ms : List Backend) (o x : Result (List ℕ) PgWireError)
    → ((w : List ℕ) → Fares target (hear rules (Waits behind w []) ms) w x)
    → Fares target (hear rules (onto sent (sending before behind o)) ms) sent (both o x)
sending_fares rules target before behind sent ms (Err why) x f = (_, _, hear_over rules _ _ ms, refl)
sending_fares rules target before behind sent ms (Ok b) x f = fares_sent target _ sent b x (f (sent ++ b))

nothing : (rules : Rules Talk Ending Backend PgWireError) (c : Course Talk Ending) → hear rules c [] ≡ c
unfolding hear
nothing rules c = refl

-- where a segment closes
abbrev Closed : Input → List (List Event) → List Event → List ℕ → Course Talk Ending
Closed input closed es w = onto w (opens input (closed ++ es ∷ []) (slice_get input.requests (length closed)))

-- what is shown of a segment, for answers up to a length
abbrev SegmentFares : Input → ℕ → Type 0
SegmentFares input n =
    (t : Talk) (sent : List ℕ) (es : List Event) → length es ≤ n → t.passed ≡ [] → Rest input t.stage es
    → Fares (Closed input t.closed (t.open_events ++ es)) (hear (talk_rules input) (Waits t sent []) (gots es))
    sent (encodings (sents es))

message_fares : (input : Input) (n : ℕ) → SegmentFares input n
    → (t : Talk) (sent : List ℕ) (m : Backend) (es : List Event) → length es ≤ n → t.passed ≡ []
    → (x : Next) → next_after input t.stage m ≡ x → RestBy input x es
    → Fares (Closed input t.closed (t.open_events ++ Got m ∷ es))
    (hear (talk_rules input) (Waits t sent []) (m ∷ gots es)) sent (encodings (sents es))
message_fares input n rec t sent m es le clean (Goes stage reply) is r =
    let fs = sends reply in
    let behind = r in
    let more = behind.0 in
    let before : Talk =
    record { closed = t.closed; open_events = t.open_events ++ Got m ∷ []; stage = stage; passed = [] } in
    let next : Talk =
    record {
      closed = t.closed;
      open_events = t.open_events ++ Got m ∷ map Sent fs;
      stage = stage;
      passed = [];
    } in
    let rules = talk_rules input in
    let course : hear rules (Waits t sent []) (m ∷ gots es) ≡ hear rules
    (onto sent (sending before next (encodings fs))) (gots more) =
    hear_one rules t sent m (gots es)
    ∙ ap (λ (l : List Backend). hear rules (onto sent (turn input t m l)) (gots es)) clean
    ∙ ap (λ x. hear rules (onto sent (moves input t m x)) (gots es)) is
    ∙ ap (hear rules (onto sent (sending before next (encodings fs)))) (ap gots behind.1
    ∙ gots_append (map Sent fs) more ∙ ap (λ (l : List Backend). l ++ gots more) (gots_sends fs)) in
    let put : encodings (sents es) ≡ both (encodings fs) (encodings (sents more)) =
    ap encodings (ap sents behind.1 ∙ sents_append (map Sent fs) more
    ∙ ap (λ (l : List Frontend). l ++ sents more) (sents_sends fs))
    ∙ encodings_append fs (sents more) in
    let shorter : length more ≤ n = omega (arith, le, ap length behind.1, length-append (map Sent fs) more) in
    let all : next.open_events ++ more ≡ t.open_events ++ Got m ∷ es =
    append_assoc t.open_events (Got m ∷ map Sent fs) more
    ∙ ap (λ (l : List Event). t.open_events ++ Got m ∷ l) (sym behind.1) in
    fares_same (Closed input t.closed (t.open_events ++ Got m ∷ es)) _ _ sent _ _ course put
    (sending_fares rules (Closed input t.closed (t.open_events ++ Got m ∷ es)) before next sent (gots more)
    (encodings fs) (encodings (sents more))
    (λ w. subst (λ (l : List Event). Fares (Closed input t.closed l) (hear rules (Waits next w []) (gots more)) w
    (encodings (sents more))) all (rec next w more shorter refl behind.2)))
message_fares input n rec t sent m es le clean Closes is none =
    let rules = talk_rules input in
    let course : hear rules (Waits t sent []) (m ∷ gots es) ≡ Closed input t.closed (t.open_events ++ Got m ∷ [])
    (sent ++ []) =
    hear_one rules t sent m (gots es)
    ∙ ap (λ (l : List Backend). hear rules (onto sent (turn input t m l)) (gots es)) clean
    ∙ ap (λ x. hear rules (onto sent (moves input t m x)) (gots es)) is
    ∙ ap (λ (l : List Event). hear rules (Closed input t.closed (t.open_events ++ Got m ∷ []) sent) (gots l))
    none
    ∙ nothing rules _
    ∙ ap (Closed input t.closed (t.open_events ++ Got m ∷ [])) (sym (append-nil sent)) in
    subst (λ (l : List Event). Fares (Closed input t.closed (t.open_events ++ Got m ∷ l))
    (hear rules (Waits t sent []) (m ∷ gots es)) sent (encodings (sents l))) (sym none) course
message_fares input n rec t sent m es le clean Wrong is r = absurd r
message_fares input n rec t sent m es le clean (Refuses e) is r = absurd r
message_fares input n rec t sent m es le clean PassesOver is r = absurd r

segment_fares : (input : Input) (n : ℕ) → SegmentFares input n
segment_fares input n t sent [] le clean rest = absurd (rest_nil input t.stage rest)
segment_fares input n t sent (Sent m ∷ es) le clean rest = absurd (rest_sent input t.stage m es rest)
segment_fares input zero t sent (Got m ∷ es) le clean rest = absurd (omega (arith, le))
segment_fares input (suc n) t sent (Got m ∷ es) le clean rest =
    message_fares input n (segment_fares input n) t sent m es (omega (arith, le)) clean
    (next_after input t.stage m) refl (rest_by input t.stage m es rest)

abbrev WholeAt : List (List Event) → List ℕ → Course Talk Ending
WholeAt segments w = Over (whole_talk segments) w

next_at : (done qs : List Request) (q : Request) → slice_get (done ++ q ∷ qs) (length done) ≡ Some q
next_at [] qs q = refl
next_at (d ∷ done) qs q = next_at done qs q

parts : (fs : List Frontend) (answer later : List Event)
    → encodings (sents ((map Sent fs ++ answer) ++ later)) ≡ both (encodings fs)
    (both (encodings (sents answer)) (encodings (sents later)))
parts fs answer later =
    ap encodings (sents_append (map Sent fs ++ answer) later
    ∙ ap (λ (l : List Frontend). l ++ sents later) (sents_append (map Sent fs) answer
    ∙ ap (λ (l : List Frontend). l ++ sents answer) (sents_sends fs))
    ∙ append_assoc fs (sents answer) (sents later))
    ∙ encodings_append fs (sents answer ++ sents later)
    ∙ ap (both (encodings fs)) (encodings_append (sents answer) (sents later))

heard_parts : (fs : List Frontend) (answer later : List Event)
    → gots ((map Sent fs ++ answer) ++ later) ≡ gots answer ++ gots later
heard_parts fs answer later =
    gots_append (map Sent fs ++ answer) later
    ∙ ap (λ (l : List Backend). l ++ gots later) (gots_append (map Sent fs) answer
    ∙ ap (λ (l : List Backend). l ++ gots answer) (gots_sends fs))

-- one segment and those behind it
one_fares : (input : Input) (closed : List (List Event)) (target : List ℕ → Course Talk Ending)
    (fs : List Frontend) (stage : Stage) (answer later : List Event) (sent : List ℕ)
    → Rest input stage answer
    → ((w : List ℕ) → Fares target
    (hear (talk_rules input) (Closed input closed (map Sent fs ++ answer) w) (gots later)) w
    (encodings (sents later)))
    → Fares target (hear (talk_rules input) (onto sent (opening closed fs stage (encodings fs)))
    (gots ((map Sent fs ++ answer) ++ later))) sent (encodings (sents ((map Sent fs ++ answer) ++ later)))
one_fares input closed target fs stage answer later sent rest f =
    let rules = talk_rules input in
    fares_same target _ _ sent _ _
    (ap (hear rules (onto sent (opening closed fs stage (encodings fs)))) (heard_parts fs answer later))
    (parts fs answer later)
    (sending_fares rules target _
    (record { closed = closed; open_events = map Sent fs; stage = stage; passed = [] }) sent
    (gots answer ++ gots later) (encodings fs) _
    (λ w. fares_same target _ _ w _ _ (hear_append rules _ (gots answer) (gots later)) refl
    (fares_on rules (Closed input closed (map Sent fs ++ answer)) target _ w (gots later) _ _
    (segment_fares input (length answer)
    (record { closed = closed; open_events = map Sent fs; stage = stage; passed = [] }) w answer
    (omega arith) refl rest) f)))

head_of : List Request → Option Request
head_of [] = None
head_of (q ∷ qs) = Some q

head_at : (done tail : List Request) → slice_get (done ++ tail) (length done) ≡ head_of tail
unfolding head_of
head_at [] [] = refl
head_at [] (q ∷ tail) = refl
head_at (d ∷ done) tail = head_at done tail

-- where the segments of the requests so far have closed, and the next one's is opened
abbrev NextAt : Input → List Request → List (List Event) → List ℕ → Course Talk Ending
NextAt input tail segments w = onto w (opens input segments (head_of tail))

later_fares : (input : Input) (done qs tail : List Request) (closed segments : List (List Event)) (sent : List ℕ)
    → input.requests ≡ done ++ (qs ++ tail) → AreSegments qs segments → length closed ≡ length done + 1
    → Fares (NextAt input tail (closed ++ segments))
    (hear (talk_rules input) (onto sent (opens input closed (slice_get input.requests (length done))))
    (gots (all_events segments))) sent (encodings (sents (all_events segments)))
later_fares input done [] tail closed [] sent are segs count =
    let asked : slice_get input.requests (length done) ≡ head_of tail =
    ap (λ (l : List Request). slice_get l (length done)) are ∙ head_at done tail in
    nothing _ _ ∙ ap (λ q. onto sent (opens input closed q)) asked
    ∙ ap (λ (c : List (List Event)). NextAt input tail c sent) (sym (append-nil closed))
    ∙ ap (NextAt input tail (closed ++ [])) (sym (append-nil sent))
later_fares input done [] tail closed (es ∷ segments) sent are segs count = absurd segs
later_fares input done (q ∷ qs) tail closed [] sent are segs count = absurd segs
later_fares input done (q ∷ qs) tail closed (es ∷ segments) sent are segs count =
    let seg = segs.0 in
    let rules = talk_rules input in
    let asked : slice_get input.requests (length done) ≡ Some q =
    ap (λ (l : List Request). slice_get l (length done)) are ∙ next_at done (qs ++ tail) q in
    let counts : length closed ≡ length (done ++ q ∷ []) = count ∙ sym (length_push done q) in
    let target : (w : List ℕ)
    → Fares (NextAt input tail (closed ++ es ∷ segments))
    (hear rules (Closed input closed es w) (gots (all_events segments))) w
    (encodings (sents (all_events segments))) = λ w.
    subst (λ k. Fares (NextAt input tail (closed ++ es ∷ segments))
    (hear rules (onto w (opens input (closed ++ es ∷ []) (slice_get input.requests k)))
    (gots (all_events segments))) w (encodings (sents (all_events segments)))) (sym counts)
    (subst (λ (c : List (List Event)). Fares (NextAt input tail c)
    (hear rules (onto w (opens input (closed ++ es ∷ []) (slice_get input.requests (length (done ++ q ∷ [])))))
    (gots (all_events segments))) w (encodings (sents (all_events segments))))
    (append_assoc closed (es ∷ []) segments)
    (later_fares input (done ++ q ∷ []) qs tail (closed ++ es ∷ []) segments w (are
    ∙ sym (append_assoc done (q ∷ []) (qs ++ tail))) segs.1 (length_push closed es
    ∙ ap (λ n. n + 1) counts))) in
    subst (λ o. Fares (NextAt input tail (closed ++ es ∷ segments))
    (hear rules (onto sent (opens input closed o)) (gots (es ++ all_events segments))) sent
    (encodings (sents (es ++ all_events segments)))) (sym asked)
    (subst (λ (l : List Event). Fares (NextAt input tail (closed ++ es ∷ segments))
    (hear rules (onto sent (opening closed (sends_of q) (stage_for q) (encodings (sends_of q))))
    (gots (l ++ all_events segments))) sent (encodings (sents (l ++ all_events segments)))) (sym seg.1)
    (one_fares input closed (NextAt input tail (closed ++ es ∷ segments)) (sends_of q) (stage_for q) seg.0
    (all_events segments) sent seg.2
    (λ w. subst (λ (l : List Event). Fares (NextAt input tail (closed ++ es ∷ segments))
    (hear rules (Closed input closed l w) (gots (all_events segments))) w
    (encodings (sents (all_events segments)))) seg.1 (target w))))

-- what the messages of the startup segment and of the requests so far lead to
begun_fares : (input : Input) (qs tail : List Request) (es : List Event) (segments : List (List Event))
    → input.requests ≡ qs ++ tail → IsStartupSegment input es → AreSegments qs segments
    → Fares (NextAt input tail (es ∷ segments))
    (hear (talk_rules input) (beginning input) (gots (all_events (es ∷ segments)))) []
    (encodings (sents (all_events (es ∷ segments))))
begun_fares input qs tail es segments are start segs =
    let rules = talk_rules input in
    let fs = startup_message input ∷ [] in
    let target = NextAt input tail (es ∷ segments) in
    subst (λ (l : List Event). Fares target (hear rules (beginning input) (gots (l ++ all_events segments))) []
    (encodings (sents (l ++ all_events segments)))) (sym start.1)
    (one_fares input [] target fs Starting start.0 (all_events segments) [] start.2
    (λ w. subst (λ (l : List Event). Fares target (hear rules (Closed input [] l w) (gots (all_events segments))) w
    (encodings (sents (all_events segments)))) start.1
    (later_fares input [] qs tail (es ∷ []) segments w are segs refl)))

whole_fares : (input : Input) (segments : List (List Event)) (course : Course Talk Ending)
    (o : Result (List ℕ) PgWireError)
    → Fares (NextAt input [] segments) course [] o → Fares (WholeAt segments) course [] o
unfolding head_of
whole_fares input segments course (Err why) f = f
whole_fares input segments course (Ok out) f = f ∙ ap (Over (whole_talk segments)) (append-nil out)

-- what the messages of a transcript lead to
pub transcript_fares : (input : Input) (segments : List (List Event)) → IsTranscript input segments
    → Fares (WholeAt segments) (hear (talk_rules input) (beginning input) (gots (all_events segments))) []
    (encodings (sents (all_events segments)))
transcript_fares input [] transcript = absurd transcript
transcript_fares input (es ∷ segments) transcript =
    whole_fares input (es ∷ segments) _ _
    (begun_fares input input.requests [] es segments (sym (append-nil input.requests)) transcript.0
    transcript.1)

-- whole, or short of an encoding
abbrev pub IsMade : Outcome → Type 0
IsMade Complete = Unit {0}
IsMade (Unencoded e) = Unit {0}
IsMade o = ⊥

-- however it fares, it ends whole or for want of an encoding
fares_ends : (segments : List (List Event)) (course : Course Talk Ending) (sent : List ℕ)
    (o : Result (List ℕ) PgWireError)
    → Fares (WholeAt segments) course sent o
    → (e : Ending) × (s : List ℕ) × (course ≡ Over e s) × IsMade e.outcome
fares_ends segments course sent (Err why) f = (f.0, f.1, f.2, subst IsMade (sym f.3) tt)
fares_ends segments course sent (Ok out) f = (_, _, f, tt)

begins_at : (input : Input) (o : Result (List ℕ) PgWireError) (next : Talk) (w : List ℕ)
    → opening [] (startup_message input ∷ []) Starting o ≡ On next w
    → standing_of input.config (heard_of next) ≡ first_standing input.config
begins_at input (Err why) next w is = cc
begins_at input (Ok b) next w is =
    let e : next ≡ record {
      closed = [];
      open_events = Sent (startup_message input) ∷ [];
      stage = Starting;
      passed = [];
    } =
    cc in ap (λ (t : Talk). standing_of input.config (heard_of t)) e
    ∙ first_sends input.config (startup_message input ∷ [])

-- as begins_at, of its bytes
pub conversation_completes : (input : Input) (segments : List (List Event)) (bytes out more : List ℕ)
    → IsTranscript input segments → SpellsGot (first_standing input.config) (all_events segments) bytes
    → EncodesSent (all_events segments) out
    → conversation input (bytes ++ more) ≡ Over (whole_talk segments) out
unfolding conversation
conversation_completes input segments bytes out more transcript got put =
    let rules = talk_rules input in
    spelled_onto rules (λ t. standing_of input.config (heard_of t)) (talk_follows input)
    (first_standing input.config) []
    (opening [] (startup_message input ∷ []) Starting (encodings (startup_message input ∷ [])))
    (all_events segments) bytes more (begins_at input (encodings (startup_message input ∷ []))) got
    ∙ ap (λ c. run rules c more)
    (subst (Fares (WholeAt segments) (hear rules (beginning input) (gots (all_events segments))) []) put
    (transcript_fares input segments transcript))
    ∙ run_over rules (whole_talk segments) out more

run_nil : (rules : Rules Talk Ending Backend PgWireError) (c : Course Talk Ending) → run rules c [] ≡ c
unfolding run
run_nil rules c = refl

-- Bytes that spell the segments of the requests so far lead to where the next one's is opened, whatever requests there
-- are behind it.
pub conversation_goes_on : (input : Input) (qs tail : List Request) (q : Request) (es : List Event)
    (segments : List (List Event)) (bytes out : List ℕ)
    → input.requests ≡ qs ++ q ∷ tail → IsStartupSegment input es → AreSegments qs segments
    → SpellsGot (first_standing input.config) (all_events (es ∷ segments)) bytes
    → EncodesSent (all_events (es ∷ segments)) out
    → conversation input bytes ≡ onto out (opens input (es ∷ segments) (Some q))
unfolding conversation head_of
conversation_goes_on input qs tail q es segments bytes out are start segs got put =
    let rules = talk_rules input in
    let target = NextAt input (q ∷ tail) (es ∷ segments) in
    ap (run rules (beginning input)) (sym (append-nil bytes))
    ∙ spelled_onto rules (λ t. standing_of input.config (heard_of t)) (talk_follows input)
    (first_standing input.config) []
    (opening [] (startup_message input ∷ []) Starting (encodings (startup_message input ∷ [])))
    (all_events (es ∷ segments)) bytes [] (begins_at input (encodings (startup_message input ∷ [])))
    got
    ∙ run_nil rules _
    ∙ subst (Fares target (hear rules (beginning input) (gots (all_events (es ∷ segments)))) []) put
    (begun_fares input qs (q ∷ tail) es segments are start segs)

-- where the conversation has come, by the messages it got
abbrev pub Heard : Input → Talk → List ℕ → Type 0
Heard input t sent = hear (talk_rules input) (beginning input) (gots (heard_of t)) ≡ Waits t sent []

pub over_same : (c : Course Talk Ending) (a b : Ending) (x y : List ℕ) → c ≡ Over a x → c ≡ Over b y → a ≡ b
over_same c a b x y is too = cc

-- what has refused a message comes to no whole transcript
onto_lost : (input : Input) (sent : List ℕ) (t : Talk) (m first : Backend) (b : Bool) (ms : List Backend)
    → t.passed ≡ first ∷ ms → HasRefused (onto sent (passing input t first m b))
onto_lost input sent t m first true ms is = tt
onto_lost input sent t m first false ms is = (first, ms ++ m ∷ [], ap (λ (l : List Backend). l ++ m ∷ []) is)

lost_step : (input : Input) (sent : List ℕ) (t : Talk) (m first : Backend) (ms : List Backend)
    → t.passed ≡ first ∷ ms → HasRefused (onto sent ((talk_rules input).step t m))
lost_step input sent t m first ms is =
    subst (λ (l : List Backend). HasRefused (onto sent (turn input t m l))) (sym is)
    (onto_lost input sent t m first (is_ready m) ms is)

lost_hears : (input : Input) (c : Course Talk Ending) (m : Backend) → HasRefused c
    → HasRefused (hears (talk_rules input) c m)
lost_hears input (Waits t sent pending) m l = lost_step input sent t m l.0 l.1 l.2
lost_hears input (Over e sent) m l = l

lost_hear : (input : Input) (c : Course Talk Ending) (ms : List Backend) → HasRefused c
    → HasRefused (hear (talk_rules input) c ms)
unfolding hear
lost_hear input c [] l = l
lost_hear input c (m ∷ ms) l = lost_hear input (hears (talk_rules input) c m) ms (lost_hears input c m l)

lost_eat : (input : Input) (t : Talk) (sent pending : List ℕ) (f : BackendFront) (m : Backend) (ms : List Backend)
    → t.passed ≡ m ∷ ms → HasRefused (eat (talk_rules input) t sent pending (session_front f))
lost_eat input t sent pending More m ms is = (m, ms, is)
lost_eat input t sent pending (Bad why) m ms is = tt
lost_eat input t sent pending (Whole x n) m ms is = lost_step input sent t x m ms is

lost_feed : (input : Input) (c : Course Talk Ending) (b : ℕ) → HasRefused c
    → HasRefused (feed (talk_rules input) c b)
lost_feed input (Waits t sent pending) b l =
    lost_eat input t sent (pending ++ b ∷ [])
    (front (standing_of input.config (heard_of t)).version (pending ++ b ∷ [])) l.0 l.1 l.2
lost_feed input (Over e sent) b l = l

pub lost_run : (input : Input) (c : Course Talk Ending) (bytes : List ℕ) → HasRefused c
    → HasRefused (run (talk_rules input) c bytes)
unfolding run
lost_run input c [] l = l
lost_run input c (b ∷ bytes) l = lost_run input (feed (talk_rules input) c b) bytes (lost_feed input c b l)

made_or_lost : (o : Outcome) → IsMade o → EndsByGot o → ⊥
made_or_lost Complete made lost = lost
made_or_lost (Unencoded e) made lost = lost
made_or_lost o made lost = made

pub lost_not_ended : (c : Course Talk Ending) (e : Ending) (s : List ℕ) → HasRefused c → c ≡ Over e s
    → IsMade e.outcome → ⊥
lost_not_ended (Waits t sent pending) e s l is made = cc
lost_not_ended (Over x sent) e s l is made =
    let same =
    over_same (Over x sent) x e sent s refl is in made_or_lost e.outcome made
    (subst (λ (y : Ending). EndsByGot y.outcome) same l)

-- a message behind which the conversation is lost stands in no joined list
lost_nowhere : (input : Input) (t : Talk) (sent : List ℕ) (m : Backend) (segments : List (List Event))
    (more : List Event)
    → hear (talk_rules input) (beginning input) (gots (said t)) ≡ Waits t sent []
    → HasRefused (onto sent ((talk_rules input).step t m)) → IsTranscript input segments
    → all_events segments ≡ (said t ++ Got m ∷ []) ++ more → ⊥
lost_nowhere input t sent m segments more heard lost transcript are =
    let rules = talk_rules input in
    let e = fares_ends segments _ [] _ (transcript_fares input segments transcript) in
    let course : hear rules (beginning input) (gots (all_events segments)) ≡ hear rules
    (onto sent (rules.step t m)) (gots more) =
    ap (λ (l : List Event). hear rules (beginning input) (gots l)) (are ∙ append_assoc (said t) (Got m ∷ []) more)
    ∙ ap (hear rules (beginning input)) (gots_append (said t) (Got m ∷ more))
    ∙ hear_append rules (beginning input) (gots (said t)) (m ∷ gots more)
    ∙ ap (λ c. hear rules c (m ∷ gots more)) heard
    ∙ hear_one rules t sent m (gots more) in
    lost_not_ended _ e.0 e.1 (lost_hear input _ (gots more) lost) (sym course ∙ e.2) e.3

some_said : (es : List Event) (m : Backend) → es ++ Got m ∷ [] ≡ [] → ⊥
some_said [] m is = cc
some_said (e ∷ es) m is = cc

-- behind the startup message, and what came before a login block
abbrev begun_talk : Input → List Backend → Talk
begun_talk input news =
    record {
      closed = [];
      open_events = Sent (startup_message input) ∷ map Got news;
      stage = Starting;
      passed = [];
    }

-- which the conversation takes
early_heard : (input : Input) (done news : List Backend) (out : List ℕ) → AreAll (is_early (must_bind input)) news
    → hear (talk_rules input) (Waits (begun_talk input done) out []) news ≡ Waits
    (begun_talk input (done ++ news)) out []
unfolding hear
early_heard input done [] out all =
    ap (λ (l : List Backend). Waits (begun_talk input l) out []) (sym (append-nil done))
early_heard input done (m ∷ news) out all =
    let rules = talk_rules input in
    let t = begun_talk input done in
    let taken : next_after input Starting m ≡ Goes Starting None =
    ap (λ b. news_or b Starting (by_login input m)) all.0 in
    let on : rules.step t m ≡ On (begun_talk input (done ++ m ∷ [])) [] =
    ap (moves input t m) taken
    ∙ ap (λ (l : List Event). On
    (record {
      closed = [];
      open_events = Sent (startup_message input) ∷ l;
      stage = Starting;
      passed = [];
    }) []) (sym (map-append Got done (m ∷ []))) in
    hear_one rules t out m news
    ∙ ap (λ x. hear rules (onto out x) news) on
    ∙ ap (λ (w : List ℕ). hear rules (Waits (begun_talk input (done ++ m ∷ [])) w []) news) (append-nil out)
    ∙ early_heard input (done ++ m ∷ []) news out all.1
    ∙ ap (λ (l : List Backend). Waits (begun_talk input l) out []) (append_assoc done (m ∷ []) news)

none_refused : (c : Course Talk Ending) (t : Talk) (out : List ℕ) → c ≡ Waits t out [] → t.passed ≡ []
    → HasRefused c → ⊥
none_refused (Waits x sent pending) t out is clean l =
    let same : x ≡ t = cc in let some = l.2 in let none = ap (λ (y : Talk). y.passed) same in cc
none_refused (Over e sent) t out is clean l = cc

-- so it refuses none of it
begun_taken : (input : Input) (t : Talk) (sent : List ℕ) (m : Backend) → IsBegun input (said t ++ Got m ∷ [])
    → (o : Result (List ℕ) PgWireError) → encodings (startup_message input ∷ []) ≡ o
    → hear (talk_rules input) (beginning input) (gots (said t)) ≡ Waits t sent []
    → HasRefused (onto sent ((talk_rules input).step t m)) → ⊥
begun_taken input t sent m b (Err why) is heard lost =
    let rules = talk_rules input in
    let over =
    ap (λ o. hear rules (onto [] (opening [] (startup_message input ∷ []) Starting o)) (gots (said t))) is
    ∙ hear_over rules _ _ (gots (said t)) in
    cc
begun_taken input t sent m b (Ok out) is heard lost =
    let rules = talk_rules input in
    let news : gots (said t) ++ m ∷ [] ≡ b.0 =
    sym (gots_append (said t) (Got m ∷ [])) ∙ ap gots b.1 ∙ gots_gots b.0 in
    let early =
    ap (λ o. hear rules (onto [] (opening [] (startup_message input ∷ []) Starting o)) b.0) is
    ∙ early_heard input [] b.0 out b.2 in
    let course =
    ap (hear rules (beginning input)) (sym news)
    ∙ hear_append rules (beginning input) (gots (said t)) (m ∷ []) ∙ ap (λ c. hear rules c (m ∷ [])) heard
    ∙ hear_one rules t sent m [] ∙ nothing rules _ in
    none_refused (onto sent (rules.step t m)) (begun_talk input b.0) out (sym course ∙ early) refl lost

pub no_place : (input : Input) (t : Talk) (sent : List ℕ) (m : Backend) → t.passed ≡ [] → Heard input t sent
    → HasRefused (onto sent (moves input t m (next_after input t.stage m)))
    → IsLegalPrefix input (said t ++ Got m ∷ []) → ⊥
no_place input t sent m clean heard lost legal = go legal
  where
    here : hear (talk_rules input) (beginning input) (gots (said t)) ≡ Waits t sent []
    here = ap (λ (l : List Event). hear (talk_rules input) (beginning input) (gots l))
        (sym (append-nil (said t)) ∙ ap (λ (ms : List Backend). said t ++ map Got ms) (sym clean)) ∙ heard

    there : HasRefused (onto sent ((talk_rules input).step t m))
    there = subst (λ (l : List Backend). HasRefused (onto sent (turn input t m l))) (sym clean) lost

    go : IsLegalPrefix input (said t ++ Got m ∷ []) → ⊥
    go (inl w) = lost_nowhere input t sent m w.0 [] here there w.1 (w.2 ∙ sym (append-nil _))
    go (inr (inr (inl none))) = some_said (said t) m none
    go (inr (inr (inr b))) = begun_taken input t sent m b (encodings (startup_message input ∷ [])) refl here there
    go (inr (inl p)) =
        lost_nowhere input t sent m _ (p.rest ++ all_events p.later) here there p.transcript
        (joined_cut p.closed p.part p.rest p.later
        ∙ ap (λ (l : List Event). l ++ (p.rest ++ all_events p.later)) (sym p.are))
