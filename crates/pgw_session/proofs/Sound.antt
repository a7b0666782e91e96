-- What a conversation says of the bytes: a transcript where it is whole, and a legal prefix with a cause where not.
use Rattle.std.proofs.Common.{◌≡◌, ℕ, List, [], ◌∷◌, ◌++◌, length, take, drop, map, zero, suc, Option, Some, None, Result, Ok, Err, slice_get, Bool, true, false, not, inl, inr, arith, refl, ◌∙◌, ap, sym, subst, append_assoc, length-append}
use Rattle.std.proofs.lemmas.List.{append-nil, length_push, take-append-le, take-append-drop, take_all}
use Rattle.std.proofs.lemmas.Bool.{cases_lt}
use Rattle.pgw_types.specs.declared.error.PgWireError.{PgWireError}
use Rattle.pgw_types.specs.declared.context.ProtocolVersion.{ProtocolVersion}
use Rattle.pgw_backend.specs.declared.backend.PgWireBackendMessage.{PgWireBackendMessage as Backend}
use Rattle.pgw_backend.specs.declared.backend.PgWireBackendMessage.TheVariants as backend
use Rattle.pgw_frontend.specs.declared.frontend.PgWireFrontendMessage.{PgWireFrontendMessage as Frontend}
use Rattle.pgw_query.specs.declared.response.ReadyForQuery.{ReadyForQuery}
use Rattle.pgw_backend.specs.Front.{front, BackendFront, More, Bad, Whole, Spells}
use Rattle.pgw_frontend.specs.Frontend.{encodings}
use Rattle.pgw_backend.proofs.FrontLaws.{front_nil, front_whole, front_whole_more, front_bad_more, front_take, front_spells, spells_front}
use Rattle.pgw_session.specs.declared.types.Request.{Request}
use Rattle.pgw_session.specs.declared.stage.Stage.{Stage}
use Rattle.pgw_session.specs.declared.stage.Stage.TheVariants.{Starting}
use Rattle.pgw_session.specs.declared.stage.Next.{Next}
use Rattle.pgw_session.specs.declared.stage.Next.TheVariants.{Goes, Closes, Wrong, Refuses, PassesOver}
use Rattle.pgw_session.specs.Events.{Event, Sent, Got, all_events}
use Rattle.pgw_session.specs.Standings.{first_standing, standing_of}
use Rattle.pgw_session.specs.Requests.{sends_of}
use Rattle.pgw_session.specs.Segments.{IsBegun, IsQuiet, IsSimple, startup_message, is_ready, is_other, sends}
use Rattle.pgw_session.specs.Transcript.{AreSegments, IsTranscript, IsLegalPrefix, SpellsGot, EncodesSent, opening_at, segment_opening}
use Rattle.pgw_session.specs.Failures.{IsServersTurn, ArePassedOver, place_of, refusal_at}
use Rattle.pgw_machine.specs.Course.{Move, On, Ends, Course, Waits, Over, onto, eat, feed, run}
use Rattle.pgw_session.specs.Reading.{session_front}
use Rattle.pgw_session.specs.Table.{next_after, stage_for}
use Rattle.pgw_session.specs.Machine.{Outcome, Complete, Unencoded, Unexpected, Unread, Refused, sending}
use Rattle.pgw_session.proofs.Moves.{moves, opens, opening, passing, turn}
use Rattle.pgw_session.specs.Talk.{Talk, Ending, between, said, heard_of, talk_rules, beginning, conversation, HasRefused}
use Rattle.pgw_session.proofs.Hears.{hear, hear_append, gots, gots_append, gots_sends}
use Rattle.pgw_session.proofs.Events.{clean_heard, joined_more, got_more, got_sends, put_on_sends, Grown, turn_grown}
use Rattle.pgw_session.proofs.Grammar.{Rest, RestBy, by_rest, some_got, some_rest, Comes, StandsAt, StandsBy, stands_comes, early_front, stands_by, stands_first}
use Rattle.pgw_session.proofs.Whole.{Heard, no_place}
use Rattle.pgw_session.specs.Input.{Input}

-- a segment is open: what ends it and segments of the input.requests behind it make a transcript with what has come
pub record Open (input : Input) (t : Talk) : Type 0 where
  pub completes : (es : List Event) (segments : List (List Event)) → Rest input t.stage es
      → AreSegments (drop (length t.closed) input.requests) segments
      → IsTranscript input (t.closed ++ (t.open_events ++ es) ∷ segments)
  pub stands : StandsAt input t.closed t.open_events t.stage
  pub begins : (more : List Event) × (t.open_events ≡ map Sent (opening_at input (length t.closed)) ++ more)

pub some_segments : (input : Input) (qs : List Request) → (segments : List (List Event)) × AreSegments qs segments
some_segments input [] = ([], tt)
some_segments input (q ∷ qs) =
    let answer = some_rest input (stage_for q) tt in
    let later = some_segments input qs in
    ((map Sent (sends_of q) ++ answer.0) ∷ later.0, ((answer.0, refl, answer.1), later.1))

-- what has begun is early
pub begun_said : (input : Input) (closed : List (List Event)) (es : List Event) → (closed ≡ []) × IsBegun input es
    → IsBegun input (all_events closed ++ es)
begun_said input closed es b = subst (λ (c : List (List Event)). IsBegun input (all_events c ++ es)) (sym b.0) b.1

pub open_legal : (input : Input) (t : Talk) → Open input t → IsLegalPrefix input (said t)
open_legal input t is_open =
    elim (stands_comes input t.closed t.open_events t.stage is_open.stands) [
      | inl begun ↦ inr (inr (inr (begun_said input t.closed t.open_events begun)))
      | inr expects ↦
          let rest = some_rest input t.stage expects in
          let later = some_segments input (drop (length t.closed) input.requests) in
          inr (inl (record {
            closed = t.closed;
            part = t.open_events;
            rest = rest.0;
            later = later.0;
            are = refl;
            transcript = is_open.completes rest.0 later.0 rest.1 later.1;
            opening = inr is_open.begins;
          }))
    ]

-- a message that is taken leads to a stage that can end, or that has begun
pub reply_comes : (input : Input) (t : Talk) (m : Backend) (stage : Stage) (reply : Option Frontend)
    → next_after input t.stage m ≡ Goes stage reply → Open input t
    → Comes input t.closed (t.open_events ++ Got m ∷ map Sent (sends reply)) stage
reply_comes input t m stage reply is is_open =
    stands_comes input t.closed (t.open_events ++ Got m ∷ map Sent (sends reply)) stage
    (subst (StandsBy input t.closed t.open_events m) is
    (stands_by input t.closed t.open_events t.stage m is_open.stands))

-- what comes next in it is a message of the server
pub open_awaits : (input : Input) (t : Talk) → Open input t → IsServersTurn input t.closed t.open_events
open_awaits input t is_open =
    elim (stands_comes input t.closed t.open_events t.stage is_open.stands) [
      | inl begun ↦ inr begun
      | inr expects ↦
          let got = some_got input t.stage expects in
          let later = some_segments input (drop (length t.closed) input.requests) in
          inl (record {
            next = got.0;
            rest = got.1;
            later = later.0;
            transcript = is_open.completes (Got got.0 ∷ got.1) later.0 got.2 later.1;
            opening = is_open.begins;
          })
    ]

-- the messages passed over
abbrev pub Passed : Input → Talk → List Backend → Type 0
Passed input t ms = ArePassedOver input t.closed t.open_events ms

-- why a message had no place: it is next; or it was passed over, and ReadyForQuery is next
abbrev pub Misplaces : Input → Talk → List ℕ → Backend → List Backend → Type 0
Misplaces input t rest m [] =
    (len : ℕ) × (front (standing_of input.config (heard_of t)).version rest ≡ Whole m len)
    × (IsLegalPrefix input (said t ++ Got m ∷ []) → ⊥) × (IsSimple t.open_events → ⊥)
    × (t.closed ≡ [] → refusal_at input (place_of t.open_events) m ≡ None)
Misplaces input t rest m (x ∷ ms) =
    (x ≡ m) × (IsLegalPrefix input (said t ++ Got m ∷ []) → ⊥) × IsQuiet ms × IsSimple t.open_events
    × (ready : ReadyForQuery) × (len : ℕ)
    × (front (standing_of input.config (heard_of t)).version rest ≡ Whole (backend.ReadyForQuery ready)
    len)

-- a message is next while the startup segment is open
abbrev pub FirstAtStartup : Input → Talk → List ℕ → Backend → Type 0
FirstAtStartup input t rest m =
    (len : ℕ) × (front (standing_of input.config (heard_of t)).version rest ≡ Whole m len) × (t.closed ≡ [])
    × (t.passed ≡ [])

-- why a conversation ended, behind its events and before these bytes
abbrev pub Cause : Input → Talk → List ℕ → Outcome → Type 0
Cause input t rest Complete = IsTranscript input t.closed × (t.open_events ≡ []) × (t.passed ≡ [])
Cause input t rest (Unencoded e) =
    (due : List Frontend) × IsLegalPrefix input (said t ++ map Sent due) × (encodings due ≡ Err e)
    × (t.passed ≡ [])
Cause input t rest (Unexpected m) = Misplaces input t rest m t.passed
Cause input t rest (Unread why) = front (standing_of input.config (heard_of t)).version rest ≡ Bad why
Cause input t rest (Refused e) =
    (m : Backend) × (refusal_at input (place_of t.open_events) m ≡ Some e) × FirstAtStartup input t rest m

-- where a conversation stopped, a segment was open
abbrev pub OpenIf : Input → Talk → Outcome → Type 0
OpenIf input t Complete = Unit {0}
OpenIf input t (Unencoded e) = Unit {0}
OpenIf input t o = Open input t × Passed input t t.passed

open_if : (input : Input) (t : Talk) (o : Outcome) → Open input t → Passed input t t.passed → OpenIf input t o
open_if input t Complete is_open passed = tt
open_if input t (Unencoded e) is_open passed = tt
open_if input t o is_open passed = (is_open, passed)

-- the bytes done gave the events so far
pub record Sofar (input : Input) (t : Talk) (done sent : List ℕ) : Type 0 where
  pub got : SpellsGot (first_standing input.config) (heard_of t) done
  pub put : EncodesSent (heard_of t) sent
  pub is_open : Open input t
  pub passed : Passed input t t.passed
  pub heard : Heard input t sent

-- the conversation of these bytes ended
pub record Final (input : Input) (e : Ending) (bytes sent : List ℕ) : Type 0 where
  pub done : List ℕ
  pub rest : List ℕ
  pub begins : bytes ≡ done ++ rest
  pub got : SpellsGot (first_standing input.config) (heard_of e.notes) done
  pub put : EncodesSent (heard_of e.notes) sent
  pub legal : IsLegalPrefix input (said e.notes)
  pub is_open : OpenIf input e.notes e.outcome
  pub cause : Cause input e.notes rest e.outcome

abbrev pub SoundAt : Input → List ℕ → Course Talk Ending → Type 0
SoundAt input bytes (Waits t sent pending) =
    (done : List ℕ) × (bytes ≡ done ++ pending) × Sofar input t done sent
    × (front (standing_of input.config (heard_of t)).version pending ≡ More)
SoundAt input bytes (Over e sent) = Final input e bytes sent

-- how a message ends the conversation: it is its last, or stays next
abbrev Takes : Talk → Backend → Talk → Type 0
Takes t m next = heard_of next ≡ heard_of t ++ Got m ∷ []

abbrev RefusesBy : Input → Talk → Backend → Backend → List Backend → Type 0
RefusesBy input t m x [] =
    (x ≡ m) × (IsLegalPrefix input (said t ++ Got m ∷ []) → ⊥) × (IsSimple t.open_events → ⊥)
    × (t.closed ≡ [] → refusal_at input (place_of t.open_events) m ≡ None)
RefusesBy input t m x (first ∷ ms) = (first ≡ x) × ((ready : ReadyForQuery) × (m ≡ backend.ReadyForQuery ready))

abbrev Stops : Input → Talk → Backend → Talk → Outcome → Type 0
Stops input t m next Complete =
    Takes t m next × IsLegalPrefix input (said next) × IsTranscript input next.closed × (next.open_events ≡ [])
    × (next.passed ≡ [])
Stops input t m next (Unencoded e) =
    Takes t m next × IsLegalPrefix input (said next)
    × ((due : List Frontend) × IsLegalPrefix input (said next ++ map Sent due) × (encodings due ≡ Err e) ×
    (next.passed ≡ []))
Stops input t m next (Unexpected x) = (next ≡ t) × RefusesBy input t m x t.passed
Stops input t m next (Refused e) =
    (next ≡ t) × (t.closed ≡ []) × (t.passed ≡ []) × (refusal_at input (place_of t.open_events) m ≡ Some e)
Stops input t m next (Unread why) = ⊥

abbrev Good : Input → Talk → Backend → Move Talk Ending → Type 0
Good input t m (On next out) = Open input next × Passed input next next.passed
Good input t m (Ends e out) = (out ≡ []) × Stops input t m e.notes e.outcome

drop_next : (requests : List Request) (k : ℕ) (q : Request) → slice_get requests k ≡ Some q
    → drop k requests ≡ q ∷ drop (suc k) requests
drop_next [] k q is = cc
drop_next (x ∷ requests) zero q is = ap (λ y. y ∷ requests) (cc)
drop_next (x ∷ requests) (suc k) q is = drop_next requests k q is

drop_past : (requests : List Request) (k : ℕ) → slice_get requests k ≡ None → drop k requests ≡ []
drop_past [] zero is = refl
drop_past [] (suc k) is = refl
drop_past (x ∷ requests) zero is = cc
drop_past (x ∷ requests) (suc k) is = drop_past requests k is

-- a segment has closed: any segments of the input.requests left make a transcript with those that have
abbrev ClosesTo : Input → List (List Event) → ℕ → Type 0
ClosesTo input closed k =
    (segments : List (List Event)) → AreSegments (drop k input.requests) segments
    → IsTranscript input (closed ++ segments)

opening_good : (input : Input) (t : Talk) (m : Backend) (closed : List (List Event)) (k : ℕ) (q : Request)
    (o : Result (List ℕ) PgWireError)
    → encodings (sends_of q) ≡ o → heard_of (between closed) ≡ heard_of t ++ Got m ∷ []
    → length closed ≡ suc k → slice_get input.requests k ≡ Some q → ClosesTo input closed k
    → Good input t m (opening closed (sends_of q) (stage_for q) o)
opening_good input t m closed k q (Err e) is are count asked closes =
    let answer = some_rest input (stage_for q) tt in
    let later = some_segments input (drop (suc k) input.requests) in
    let transcript =
    closes ((map Sent (sends_of q) ++ answer.0) ∷ later.0)
    (subst (λ (qs : List Request). AreSegments qs ((map Sent (sends_of q) ++ answer.0) ∷ later.0))
    (sym (drop_next input.requests k q asked)) ((answer.0, refl, answer.1), later.1)) in
    let begins =
    subst (λ n. map Sent (sends_of q) ≡ map Sent (opening_at input n) ++ []) (sym count)
    (ap (λ o. map Sent (segment_opening o)) (sym asked)
    ∙ sym (append-nil _)) in (
      refl,
      (
        are,
        inr (inl (record {
          closed = closed;
          part = [];
          rest = map Sent (sends_of q) ++ answer.0;
          later = later.0;
          are = refl;
          transcript = transcript;
          opening = inl refl;
        })),
        (
          sends_of q,
          inr (inl (record {
            closed = closed;
            part = map Sent (sends_of q);
            rest = answer.0;
            later = later.0;
            are = ap (λ (l : List Event). l ++ map Sent (sends_of q)) (append-nil (all_events closed));
            transcript = transcript;
            opening = inr ([], begins);
          })),
          is,
          refl,
        ),
      ),
    )
opening_good input t m closed k q (Ok out) is are count asked closes = (
  record {
    completes = λ es segments rest segs.
        closes ((map Sent (sends_of q) ++ es) ∷ segments)
        (subst (λ (qs : List Request). AreSegments qs ((map Sent (sends_of q) ++ es) ∷ segments))
        (sym (drop_next input.requests k q asked))
        ((es, refl, rest), subst (λ n. AreSegments (drop n input.requests) segments) count segs));
    stands = stands_first input q closed (λ none. let c = ap length none in absurd (omega (arith, c, count)));
    begins = (
      [],
      subst (λ n. map Sent (sends_of q) ≡ map Sent (opening_at input n) ++ []) (sym count)
          (ap (λ o. map Sent (segment_opening o)) (sym asked)
          ∙ sym (append-nil _)),
    );
  },
  tt,
)

opens_good : (input : Input) (t : Talk) (m : Backend) (closed : List (List Event)) (k : ℕ) (o : Option Request)
    → heard_of (between closed) ≡ heard_of t ++ Got m ∷ []
    → length closed ≡ suc k → slice_get input.requests k ≡ o → ClosesTo input closed k
    → Good input t m (opens input closed o)
opens_good input t m closed k None are count asked closes =
    let transcript =
    subst (IsTranscript input) (append-nil closed)
    (closes [] (subst (λ (qs : List Request). AreSegments qs []) (sym (drop_past input.requests k asked))
    tt)) in
    (refl, (are, inl (closed, transcript, sym (append-nil (all_events closed))), transcript, refl, refl))
opens_good input t m closed k (Some q) are count asked closes =
    opening_good input t m closed k q (encodings (sends_of q)) refl are count asked closes

-- not ReadyForQuery
other_is : (m : Backend) → is_ready m ≡ false → is_other m ≡ true
other_is m is = ap not is

ready_is : (m : Backend) → is_ready m ≡ true → (ready : ReadyForQuery) × (m ≡ backend.ReadyForQuery ready)
ready_is (backend.ReadyForQuery ready) is = (ready, refl)
ready_is m is = cc

quiet_more : (ms : List Backend) (m : Backend) → IsQuiet ms → is_ready m ≡ false → IsQuiet (ms ++ m ∷ [])
quiet_more [] m q is = (other_is m is, tt)
quiet_more (x ∷ ms) m q is = (q.0, quiet_more ms m q.1 is)

-- behind a message that is taken stands a legal prefix, and behind the reply
pub reply_legal : (input : Input) (t : Talk) (m : Backend) (stage : Stage) (reply : Option Frontend)
    → next_after input t.stage m ≡ Goes stage reply → Open input t
    → IsLegalPrefix input (all_events t.closed ++ (t.open_events ++ Got m ∷ []))
    × IsLegalPrefix input ((all_events t.closed ++ (t.open_events ++ Got m ∷ [])) ++ map Sent (sends reply))
reply_legal input t m stage reply is is_open =
    elim (reply_comes input t m stage reply is is_open)
    [ inl begun ↦ early begun | inr expects ↦ part (some_rest input stage expects) ]
  where
    fs : List Frontend
    fs = sends reply

    one : List Event
    one = t.open_events ++ Got m ∷ []

    whole : one ++ map Sent fs ≡ t.open_events ++ Got m ∷ map Sent fs
    whole = append_assoc t.open_events (Got m ∷ []) (map Sent fs)

    early : (t.closed ≡ []) × IsBegun input (t.open_events ++ Got m ∷ map Sent fs)
        → IsLegalPrefix input (all_events t.closed ++ one)
        × IsLegalPrefix input ((all_events t.closed ++ one) ++ map Sent fs)
    early b =
        let all : IsBegun input ((all_events t.closed ++ one) ++ map Sent fs) =
        subst (IsBegun input) (ap (λ (l : List Event). all_events t.closed ++ l) (sym whole)
        ∙ sym (append_assoc (all_events t.closed) one (map Sent fs))) (begun_said input t.closed _ b) in
        (inr (inr (early_front input (all_events t.closed ++ one) (map Sent fs) all)), inr (inr (inr all)))

    part : (es : List Event) × Rest input stage es
        → IsLegalPrefix input (all_events t.closed ++ one)
        × IsLegalPrefix input ((all_events t.closed ++ one) ++ map Sent fs)
    part rest =
        let later = some_segments input (drop (length t.closed) input.requests) in
        let more = map Sent fs ++ rest.0 in
        let transcript =
        is_open.completes (Got m ∷ more) later.0
        (by_rest input t.stage m more (subst (λ x. RestBy input x more) (sym is) (rest.0, refl, rest.1)))
        later.1 in
        let begins =
        ap (λ (l : List Event). l ++ Got m ∷ []) is_open.begins.1
        ∙ append_assoc _ is_open.begins.0 (Got m ∷ []) in (
          inr (inl (record {
            closed = t.closed;
            part = one;
            rest = more;
            later = later.0;
            are = refl;
            transcript =
                subst (λ (l : List Event). IsTranscript input (t.closed ++ l ∷ later.0))
                (sym (append_assoc t.open_events (Got m ∷ []) more)) transcript;
            opening = inr (is_open.begins.0 ++ Got m ∷ [], begins);
          })),
          inr (inl (record {
            closed = t.closed;
            part = one ++ map Sent fs;
            rest = rest.0;
            later = later.0;
            are = append_assoc (all_events t.closed) one (map Sent fs);
            transcript =
                subst (λ (l : List Event). IsTranscript input (t.closed ++ l ∷ later.0))
                (sym (append_assoc one (map Sent fs) rest.0
                ∙ append_assoc t.open_events (Got m ∷ []) more)) transcript;
            opening =
                inr (
                  (is_open.begins.0 ++ Got m ∷ []) ++ map Sent fs,
                  ap (λ (l : List Event). l ++ map Sent fs)
                      begins
                      ∙ append_assoc _ (is_open.begins.0 ++ Got m ∷ []) (map Sent fs),
                );
          })),
        )

reply_good : (input : Input) (t : Talk) (m : Backend) (stage : Stage) (reply : Option Frontend)
    (o : Result (List ℕ) PgWireError)
    → encodings (sends reply) ≡ o → t.passed ≡ [] → next_after input t.stage m ≡ Goes stage reply → Open input t
    → Good input t m (sending (record {
      closed = t.closed;
      open_events = t.open_events ++ Got m ∷ [];
      stage = stage;
      passed = [];
    }) (record {
      closed = t.closed;
      open_events = t.open_events ++ Got m ∷ map Sent (sends reply);
      stage = stage;
      passed = [];
    }) o)
reply_good input t m stage reply (Err e) none clean is is_open =
    let fs = sends reply in
    let are : all_events t.closed ++ (t.open_events ++ Got m ∷ []) ≡ said t ++ Got m ∷ [] =
    sym (append_assoc (all_events t.closed) t.open_events (Got m ∷ [])) in
    let legal = reply_legal input t m stage reply is is_open in (
      refl,
      (
        append-nil _ ∙ are ∙ ap (λ (l : List Event). l ++ Got m ∷ []) (clean_heard t clean),
        legal.0,
        (fs, legal.1, none, refl),
      ),
    )
reply_good input t m stage reply (Ok out) some clean is is_open =
    let s = t.stage in
    let fs = sends reply in (
      record {
        completes = λ es segments rest segs.
            subst (λ (l : List Event). IsTranscript input (t.closed ++ l ∷ segments))
            (sym (append_assoc t.open_events (Got m ∷ map Sent fs) es))
            (is_open.completes (Got m ∷ (map Sent fs ++ es)) segments
            (by_rest input s m (map Sent fs ++ es)
            (subst (λ x. RestBy input x (map Sent fs ++ es)) (sym is) (es, refl, rest))) segs);
        stands =
            subst (StandsBy input t.closed t.open_events m) is
            (stands_by input t.closed t.open_events s m is_open.stands);
        begins = (
          is_open.begins.0 ++ Got m ∷ map Sent fs,
          ap (λ (l : List Event). l ++ Got m ∷ map Sent fs)
              is_open.begins.1
              ∙ append_assoc _ is_open.begins.0 (Got m ∷ map Sent fs),
        );
      },
      tt,
    )

moves_good : (input : Input) (t : Talk) (m : Backend) (sent : List ℕ) (n : Next) → t.passed ≡ []
    → (HasRefused (onto sent (moves input t m n)) → IsLegalPrefix input (said t ++ Got m ∷ []) → ⊥)
    → next_after input t.stage m ≡ n → Open input t → Good input t m (moves input t m n)
moves_good input t m sent (Goes stage reply) clean nowhere is is_open =
    reply_good input t m stage reply (encodings (sends reply)) refl clean is is_open
moves_good input t m sent Closes clean nowhere is is_open =
    let s = t.stage in
    let es = t.open_events ++ Got m ∷ [] in
    opens_good input t m (t.closed ++ es ∷ []) (length t.closed) (slice_get input.requests (length t.closed))
    (append-nil _ ∙ append-nil _ ∙ joined_more t.closed es
    ∙ sym (append_assoc (all_events t.closed) t.open_events (Got m ∷ []))
    ∙ ap (λ (l : List Event). l ++ Got m ∷ []) (clean_heard t clean))
    (length_push t.closed es ∙ omega arith)
    refl
    (λ segments segs. subst (IsTranscript input) (sym (append_assoc t.closed (es ∷ []) segments))
    (is_open.completes (Got m ∷ []) segments
    (by_rest input s m [] (subst (λ x. RestBy input x []) (sym is) refl)) segs))
moves_good input t m sent Wrong clean nowhere is is_open =
    let stands =
    subst (StandsBy input t.closed t.open_events m) is
    (stands_by input t.closed t.open_events t.stage m is_open.stands) in
    (refl, (refl, subst (RefusesBy input t m m) (sym clean) (refl, nowhere tt, stands.0, stands.1)))
moves_good input t m sent (Refuses e) clean nowhere is is_open =
    let stands =
    subst (StandsBy input t.closed t.open_events m) is
    (stands_by input t.closed t.open_events t.stage m is_open.stands) in
    (refl, (refl, stands.0, clean, stands.1))
moves_good input t m sent PassesOver clean nowhere is is_open = (
  record { completes = is_open.completes; stands = is_open.stands; begins = is_open.begins },
  subst
      (Passed input t) (ap (λ (l : List Backend). l ++ m ∷ []) (sym clean)) (
        nowhere (m, [], ap (λ (l : List Backend). l ++ m ∷ []) clean),
        tt,
        subst
            (StandsBy input t.closed t.open_events m) is
            (stands_by input t.closed t.open_events t.stage m is_open.stands),
      ),
)

passing_good : (input : Input) (t : Talk) (m first : Backend) (ms : List Backend) (b : Bool)
    → t.passed ≡ first ∷ ms → is_ready m ≡ b → Passed input t (first ∷ ms) → Open input t
    → Good input t m (passing input t first m b)
passing_good input t m first ms true are is passed is_open =
    (refl, (refl, subst (RefusesBy input t m first) (sym are) (refl, ready_is m is)))
passing_good input t m first ms false are is passed is_open = (
  record { completes = is_open.completes; stands = is_open.stands; begins = is_open.begins },
  subst (λ (l : List Backend). Passed input t (l ++ m ∷ [])) (sym are)
      (passed.0, quiet_more ms m passed.1 is, passed.2),
)

turn_good : (input : Input) (t : Talk) (m : Backend) (done sent : List ℕ) (passed : List Backend)
    → t.passed ≡ passed → Sofar input t done sent → Good input t m (turn input t m passed)
turn_good input t m done sent [] clean s =
    moves_good input t m sent (next_after input t.stage m) clean (no_place input t sent m clean s.heard) refl
    s.is_open
turn_good input t m done sent (first ∷ ms) are s =
    passing_good input t m first ms (is_ready m) are refl (subst (Passed input t) are s.passed) s.is_open

-- a message that is whole only with the last byte takes all of them
whole_all : (v : ProtocolVersion) (pending : List ℕ) (b : ℕ) (m : Backend) (n : ℕ) → front v pending ≡ More
    → front v (pending ++ b ∷ []) ≡ Whole m n → Spells v m (pending ++ b ∷ [])
whole_all v pending b m n more is =
    let within = front_whole v (pending ++ b ∷ []) m n is in
    elim (cases_lt (length pending) n) [
      | inl longer ↦
          let all : take n (pending ++ b ∷ []) ≡ pending ++ b ∷ [] =
          take_all n (pending ++ b ∷ []) (omega (arith, length-append pending (b ∷ []), longer)) in
          subst (λ (l : List ℕ). Spells v m l) all (front_spells v (pending ++ b ∷ []) m n is)
      | inr short ↦
          let taken : front v (take n pending) ≡ Whole m n =
          ap (front v) (sym (take-append-le n pending (b ∷ []) short))
          ∙ front_take v (pending ++ b ∷ []) m n is in
          let whole : front v (take n pending ++ drop n pending) ≡ Whole m n =
          front_whole_more v (take n pending) (drop n pending) m n taken in
          let same = ap (front v) (take-append-drop n pending) in
          absurd cc
    ]

-- bytes that spell a message have it at their front
pub spelled_front : (v : ProtocolVersion) (m : Backend) (bytes : List ℕ) → Spells v m bytes
    → front v bytes ≡ Whole m (length bytes)
spelled_front v m bytes spells = ap (front v) (sym (append-nil bytes)) ∙ spells_front v m bytes [] spells

got_one : (input : Input) (t : Talk) (m : Backend) (done message : List ℕ)
    → SpellsGot (first_standing input.config) (heard_of t) done
    → Spells (standing_of input.config (heard_of t)).version m message
    → SpellsGot (first_standing input.config) (heard_of t ++ Got m ∷ []) (done ++ message)
unfolding standing_of
got_one input t m done message got spells =
    got_more (first_standing input.config) (heard_of t) m done message got spells

heard_one : (input : Input) (t : Talk) (m : Backend) (sent : List ℕ) (fs : List Frontend) → Heard input t sent
    → hear (talk_rules input) (beginning input) (gots ((heard_of t ++ Got m ∷ []) ++ map Sent fs)) ≡ onto sent
    (turn input t m t.passed)
unfolding hear
heard_one input t m sent fs heard =
    ap (hear (talk_rules input) (beginning input)) (gots_append (heard_of t ++ Got m ∷ []) (map Sent fs)
    ∙ ap (λ (l : List Backend). gots (heard_of t ++ Got m ∷ []) ++ l) (gots_sends fs) ∙ append-nil _
    ∙ gots_append (heard_of t) (Got m ∷ []))
    ∙ hear_append (talk_rules input) (beginning input) (gots (heard_of t)) (m ∷ [])
    ∙ ap (λ c. hear (talk_rules input) c (m ∷ [])) heard

put_one : (t : Talk) (m : Backend) (sent : List ℕ) → EncodesSent (heard_of t) sent
    → EncodesSent (heard_of t ++ Got m ∷ []) sent
put_one t m sent put =
    subst (λ (l : List Event). EncodesSent l sent) (append-nil (heard_of t ++ Got m ∷ []))
    (subst (EncodesSent ((heard_of t ++ Got m ∷ []) ++ [])) (append-nil sent)
    (put_on_sends (heard_of t) sent [] [] m put refl))

refused_sound : (input : Input) (done sent message : List ℕ) (t : Talk) (m x : Backend) (passed : List Backend)
    → t.passed ≡ passed → Sofar input t done sent
    → Spells (standing_of input.config (heard_of t)).version m message
    → RefusesBy input t m x passed → Passed input t passed → Misplaces input t message x passed
refused_sound input done sent message t m x [] are s spells r k = (
  length message,
  spelled_front (standing_of input.config (heard_of t)).version m message spells
      ∙ ap (λ y. Whole y (length message)) (sym r.0),
  subst
      (λ y. IsLegalPrefix input (said t ++ Got y ∷ []) → ⊥) (sym r.0) r.1,
  r.2,
  subst
      (λ y. t.closed ≡ [] → refusal_at input (place_of t.open_events) y ≡ None) (sym r.0) r.3,
)
refused_sound input done sent message t m x (first ∷ ms) are s spells r k = (
  r.0,
  subst (λ y. IsLegalPrefix input (said t ++ Got y ∷ []) → ⊥) r.0 k.0,
  k.1,
  k.2,
  r.1.0,
  length message,
  spelled_front (standing_of input.config (heard_of t)).version m message spells
      ∙ ap (λ y. Whole y (length message)) r.1.1,
)

-- a message that is refused at startup
first_at_startup : (input : Input) (done sent message : List ℕ) (t : Talk) (m : Backend) → Sofar input t done sent
    → Spells (standing_of input.config (heard_of t)).version m message → t.closed ≡ [] → t.passed ≡ []
    → FirstAtStartup input t message m
first_at_startup input done sent message t m s spells none clean =
    (length message, spelled_front (standing_of input.config (heard_of t)).version m message spells, none, clean)

-- an end before the message
stays : (input : Input) (bytes done sent message : List ℕ) (t next : Talk) (outcome : Outcome)
    → bytes ≡ done ++ message → Sofar input t done sent → next ≡ t → Cause input t message outcome
    → Final input (record { notes = next; outcome = outcome }) bytes sent
stays input bytes done sent message t next outcome are s is cause =
    subst (λ (n : Talk). Final input (record { notes = n; outcome = outcome }) bytes sent) (sym is)
    (record {
      done = done;
      rest = message;
      begins = are;
      got = s.got;
      put = s.put;
      legal = open_legal input t s.is_open;
      is_open = open_if input t outcome s.is_open s.passed;
      cause = cause;
    })

-- a message ends the conversation
stops_sound : (input : Input) (bytes done sent message : List ℕ) (t next : Talk) (m : Backend) (outcome : Outcome)
    → bytes ≡ done ++ message → Sofar input t done sent
    → Spells (standing_of input.config (heard_of t)).version m message → Stops input t m next outcome
    → Final input (record { notes = next; outcome = outcome }) bytes sent
stops_sound input bytes done sent message t next m Complete are s spells stops = record {
  done = done ++ message;
  rest = [];
  begins = are ∙ sym (append-nil _);
  got = subst (λ (l : List Event). SpellsGot (first_standing input.config) l (done ++ message)) (sym stops.0)
      (got_one input t m done message s.got spells);
  put = subst (λ (l : List Event). EncodesSent l sent) (sym stops.0) (put_one t m sent s.put);
  legal = stops.1;
  is_open = tt;
  cause = (stops.2, stops.3, stops.4);
}
stops_sound input bytes done sent message t next m (Unencoded e) are s spells stops = record {
  done = done ++ message;
  rest = [];
  begins = are ∙ sym (append-nil _);
  got = subst (λ (l : List Event). SpellsGot (first_standing input.config) l (done ++ message)) (sym stops.0)
      (got_one input t m done message s.got spells);
  put = subst (λ (l : List Event). EncodesSent l sent) (sym stops.0) (put_one t m sent s.put);
  legal = stops.1;
  is_open = tt;
  cause = stops.2;
}
stops_sound input bytes done sent message t next m (Unexpected x) are s spells stops =
    stays input bytes done sent message t next (Unexpected x) are s stops.0
    (refused_sound input done sent message t m x t.passed refl s spells stops.1 s.passed)
stops_sound input bytes done sent message t next m (Refused e) are s spells stops =
    stays input bytes done sent message t next (Refused e) are s stops.0
    (m, stops.3, first_at_startup input done sent message t m s spells stops.1 stops.2)
stops_sound input bytes done sent message t next m (Unread why) are s spells stops = absurd stops

onto_sound : (input : Input) (bytes done sent message : List ℕ) (t : Talk) (m : Backend) (move : Move Talk Ending)
    → turn input t m t.passed ≡ move
    → bytes ≡ done ++ message → Sofar input t done sent
    → Spells (standing_of input.config (heard_of t)).version m message → Grown (heard_of t ++ Got m ∷ []) move
    → Good input t m move → SoundAt input bytes (onto sent move)
onto_sound input bytes done sent message t m (On next out) is are s spells grown good = (
  done ++ message,
  are ∙ sym (append-nil _),
  record {
    got = subst (λ (l : List Event). SpellsGot (first_standing input.config) l (done ++ message)) (sym grown.1)
        (got_sends (first_standing input.config) (heard_of t ++ Got m ∷ []) grown.0 (done ++ message)
        (got_one input t m done message s.got spells));
    put = subst (λ (l : List Event). EncodesSent l (sent ++ out)) (sym grown.1)
        (put_on_sends (heard_of t) sent out grown.0 m s.put grown.2);
    is_open = good.0;
    passed = good.1;
    heard =
        ap (λ (l : List Event). hear (talk_rules input) (beginning input) (gots l)) grown.1
        ∙ heard_one input t m sent grown.0 s.heard ∙ ap (onto sent) is;
  },
  front_nil (standing_of input.config (heard_of next)).version,
)
onto_sound input bytes done sent message t m (Ends e out) is are s spells grown good =
    subst (λ (w : List ℕ). Final input e bytes w) (sym (append-nil sent)
    ∙ ap (λ (w : List ℕ). sent ++ w) (sym good.0))
    (stops_sound input bytes done sent message t e.notes m e.outcome are s spells good.1)

eat_sound : (input : Input) (bytes done sent pending : List ℕ) (t : Talk) (b : ℕ) (f : BackendFront)
    → bytes ≡ done ++ (pending ++ b ∷ []) → front (standing_of input.config (heard_of t)).version pending ≡ More
    → front (standing_of input.config (heard_of t)).version (pending ++ b ∷ []) ≡ f
    → Sofar input t done sent
    → SoundAt input bytes (eat (talk_rules input) t sent (pending ++ b ∷ []) (session_front f))
eat_sound input bytes done sent pending t b More are more is s = (done, are, s, is)
eat_sound input bytes done sent pending t b (Bad why) are more is s =
    record {
      done = done;
      rest = pending ++ b ∷ [];
      begins = are;
      got = s.got;
      put = s.put;
      legal = open_legal
          input t s.is_open;
      is_open = (s.is_open, s.passed);
      cause = is;
    }
eat_sound input bytes done sent pending t b (Whole m n) are more is s =
    onto_sound input bytes done sent (pending ++ b ∷ []) t m _ refl are s
    (whole_all (standing_of input.config (heard_of t)).version pending b m n more is)
    (turn_grown input t m t.passed refl) (turn_good input t m done sent t.passed refl s)

misplaces_more : (input : Input) (t : Talk) (rest more : List ℕ) (m : Backend) (passed : List Backend)
    → Misplaces input t rest m passed → Misplaces input t (rest ++ more) m passed
misplaces_more input t rest more m [] c =
    (c.0, front_whole_more (standing_of input.config (heard_of t)).version rest more m c.0 c.1, c.2, c.3, c.4)
misplaces_more input t rest more m (x ∷ ms) c = (
  c.0,
  c.1,
  c.2,
  c.3,
  c.4,
  c.5,
  front_whole_more (standing_of input.config (heard_of t)).version rest more
      (backend.ReadyForQuery c.4) c.5 c.6,
)

first_more : (input : Input) (t : Talk) (rest more : List ℕ) (m : Backend) → FirstAtStartup input t rest m
    → FirstAtStartup input t (rest ++ more) m
first_more input t rest more m c =
    (c.0, front_whole_more (standing_of input.config (heard_of t)).version rest more m c.0 c.1, c.2, c.3)

-- more bytes change no cause
cause_more : (input : Input) (t : Talk) (rest more : List ℕ) (outcome : Outcome) → Cause input t rest outcome
    → Cause input t (rest ++ more) outcome
cause_more input t rest more Complete c = c
cause_more input t rest more (Unencoded e) c = c
cause_more input t rest more (Unexpected m) c = misplaces_more input t rest more m t.passed c
cause_more input t rest more (Unread why) c =
    front_bad_more (standing_of input.config (heard_of t)).version rest more why c
cause_more input t rest more (Refused e) c = (c.0, c.1, first_more input t rest more c.0 c.2)

feed_sound : (input : Input) (bytes : List ℕ) (c : Course Talk Ending) (b : ℕ) → SoundAt input bytes c
    → SoundAt input (bytes ++ b ∷ []) (feed (talk_rules input) c b)
feed_sound input bytes (Waits t sent pending) b s =
    eat_sound input (bytes ++ b ∷ []) s.0 sent pending t b
    (front (standing_of input.config (heard_of t)).version (pending ++ b ∷ []))
    (ap (λ (l : List ℕ). l ++ b ∷ []) s.1
    ∙ append_assoc s.0 pending (b ∷ [])) s.3 refl s.2
feed_sound input bytes (Over e sent) b s = record {
  done = s.done;
  rest = s.rest ++ b ∷ [];
  begins = ap (λ (l : List ℕ). l ++ b ∷ []) s.begins ∙ append_assoc s.done s.rest (b ∷ []);
  got = s.got;
  put = s.put;
  legal = s.legal;
  is_open = s.is_open;
  cause = cause_more input e.notes s.rest (b ∷ []) e.outcome s.cause;
}

run_sound : (input : Input) (before : List ℕ) (c : Course Talk Ending) (bytes : List ℕ) → SoundAt input before c
    → SoundAt input (before ++ bytes) (run (talk_rules input) c bytes)
unfolding run
run_sound input before c [] s = subst (λ (l : List ℕ). SoundAt input l c) (sym (append-nil before)) s
run_sound input before c (b ∷ bytes) s =
    subst (λ (l : List ℕ). SoundAt input l (run (talk_rules input) (feed (talk_rules input) c b) bytes))
    (append_assoc before (b ∷ []) bytes)
    (run_sound input (before ++ b ∷ []) (feed (talk_rules input) c b) bytes (feed_sound input before c b s))

start_sound : (input : Input) (o : Result (List ℕ) PgWireError) → encodings (startup_message input ∷ []) ≡ o
    → SoundAt input [] (onto [] (opening [] (startup_message input ∷ []) Starting o))
unfolding hear
start_sound input (Err e) is = record {
  done = [];
  rest = [];
  begins = refl;
  got = refl;
  put = refl;
  legal = inr (inr (inl refl));
  is_open = tt;
  cause = (startup_message input ∷ [], inr (inr (inr ([], refl, tt))), is, refl);
}
start_sound input (Ok out) is = (
  [],
  refl,
  record {
    got = refl;
    put = is;
    is_open = record {
      completes = λ es segments rest segs. ((es, refl, rest), segs);
      stands = ((refl, refl, λ l. l), ([], refl, tt));
      begins = ([], refl);
    };
    passed = tt;
    heard = ap (λ o. onto [] (opening [] (startup_message input ∷ []) Starting o)) is;
  },
  front_nil _,
)

-- what the conversation of some bytes says of them
pub conversation_sound : (input : Input) (bytes : List ℕ) → SoundAt input bytes (conversation input bytes)
unfolding conversation
conversation_sound input bytes =
    run_sound input [] (beginning input) bytes (start_sound input (encodings (startup_message input ∷ [])) refl)
