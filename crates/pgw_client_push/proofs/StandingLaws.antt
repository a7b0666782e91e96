-- What a client stands for behind the messages that it took.
use Rattle.std.proofs.Common.{◌≡◌, ℕ, suc, ◌+◌, ◌-◌, List, [], ◌∷◌, ◌++◌, length, take, drop, Option, Some, None, arith, refl, ◌∙◌, ap, sym, subst, append_assoc, length-append, length-drop, length-take-le, take-append-drop}
use Rattle.std.proofs.lemmas.List.{append-nil, take_at}
use Rattle.std.proofs.Math.Seq.{take-append-add}
use Rattle.pgw_backend.specs.Front.{front, Whole as IsWhole}
use Rattle.pgw_backend.specs.declared.backend.PgWireBackendMessage.{PgWireBackendMessage as Backend}
use Rattle.pgw_backend.proofs.FrontLaws.{front_take, front_whole, front_whole_more}
use Rattle.pgw_machine.specs.Course.{Begins, Ends, More, Over, Waits, Whole, run, map_course}
use Rattle.pgw_machine.proofs.CourseLaws.{run_append, run_ends, run_more}
use Rattle.pgw_machine.proofs.FrontLaws.{fronts_wait}
use Rattle.pgw_session.specs.declared.notes.Notes.{Notes}
use Rattle.pgw_session.specs.declared.types.Answer.{Answer}
use Rattle.pgw_session.specs.declared.types.Request.{Request}
use Rattle.pgw_session.specs.Answers.{answers_of, no_tally, tally_of}
use Rattle.pgw_session.specs.Events.{Event, all_events}
use Rattle.pgw_session.specs.Input.{Input, input_with}
use Rattle.pgw_session.specs.Machine.{Complete, End, map_end, rules_by, turn_by}
use Rattle.pgw_session.specs.Notes.{notes_book, view}
use Rattle.pgw_session.specs.Reading.{version_front}
use Rattle.pgw_session.specs.Standings.{first_standing, standing_of}
use Rattle.pgw_session.specs.Talk.{Ending, Talk, beginning, conversation, first_passed, heard_of, talk_book, talk_rules}
use Rattle.pgw_session.specs.Transcript.{EncodesSent, IsTranscript, SpellsGot}
use Rattle.pgw_session.proofs.Events.{clean_heard}
use Rattle.pgw_session.proofs.ReadingLaws.{reads_whole, steady_by}
use Rattle.pgw_session.proofs.Sound.{Cause, SoundAt, conversation_sound}
use Rattle.pgw_session.proofs.Whole.{conversation_completes}
use Rattle.pgw_dialogue.specs.Machine.{NotesCourse, runs, whole_end}
use Rattle.pgw_dialogue.proofs.TalkLaws.{begins_on, carried, noted, over_in, waits_in}
use Rattle.pgw_client_push.specs.Behind.{notes_behind}
use Rattle.pgw_client_push.specs.Standing.{PushWaits, IsLastSegment, NotesAt, asks}
use Rattle.pgw_client_push.proofs.BehindLaws.{IsOfRequest, last_view}
use Rattle.pgw_client_push.proofs.ViewLaws.{Within, run_where}

-- what the machine goes by
abbrev pub latest : Input → Option (List Request) → Input
latest input asked = input_with input.config (asks asked) input.nonce

-- ---- from the machine of the last request to the conversation

-- nothing stands before the startup segment
seen_same : (c : NotesCourse) → map_course (notes_behind 0 []) (map_end (notes_behind 0 [])) c ≡ c
seen_same (Waits n sent pending) =
    let none : n.closed + 0 ≡ n.closed = omega arith in
    ap (λ k. Waits (record n { closed = k }) sent pending) none
seen_same (Over e sent) =
    let none : e.notes.closed + 0 ≡ e.notes.closed = omega arith in
    ap (λ k. Over (record { notes = record e.notes { closed = k }; outcome = e.outcome }) sent) none

-- the notes are of the segment of the last request, if there is one
abbrev pub IsOf : Option (List Request) → Notes → Type 0
IsOf None n = Unit {0}
IsOf (Some qs) n = IsOfRequest n

pub is_of : (input : Input) (asked : Option (List Request)) (notes : Notes) (t : Talk)
    → NotesAt input asked notes t → IsOf asked notes
is_of input None notes t a = tt
is_of input (Some qs) notes t a = (a.last.2, a.last.3, a.last.4)

-- what more bytes lead to, as the machine of the last request has it
wide_run : (input : Input) (asked : Option (List Request)) (notes : Notes) (t : Talk) (done put bytes : List ℕ)
    (a : NotesAt input asked notes t)
    → conversation input done ≡ Waits t put []
    → (noted input (conversation input (done ++ bytes)) ≡ map_course (notes_behind (length a.before) a.earlier)
    (map_end (notes_behind (length a.before) a.earlier)) (runs (latest input asked) notes put bytes))
    × Within (IsOf asked) (runs (latest input asked) notes put bytes)
wide_run input None notes t done put bytes a is =
    let none = a.last.0 in
    let same : latest input None ≡ input =
    ap (λ (qs : List Request). input_with input.config qs input.nonce) (sym (a.are
    ∙ ap (λ (l : List Request). l ++ []) none)) in
    let first : length a.before ≡ 0 = ap length none in
    let f : ℕ → List Answer → NotesCourse → NotesCourse =
    λ k earlier c. map_course (notes_behind k earlier) (map_end (notes_behind k earlier)) c in
    let zero_is : (c : NotesCourse) → f (length a.before) a.earlier c ≡ c =
    λ c. ap (λ k. f k a.earlier c) first ∙ ap (λ (l : List Answer). f 0 l c) a.last.1 ∙ seen_same c in
    let here : Waits (view input t) put [] ≡ Waits notes put [] =
    ap (λ (n : Notes). Waits n put []) a.notes_are ∙ zero_is (Waits notes put []) in (
      sym (carried input done put [] bytes t is)
          ∙ ap (λ (c : NotesCourse). run (rules_by notes_book input) c bytes) here
          ∙ ap (λ (i : Input). runs i notes put bytes) (sym same)
          ∙ sym (zero_is (runs (latest input None) notes put bytes)),
      any (runs (latest input None) notes put bytes),
    )
  where
    any : (c : NotesCourse) → Within (IsOf None) c
    any (Waits n sent pending) = tt
    any (Over e sent) = tt
wide_run input (Some qs) notes t done put bytes a is =
    let l = a.last in
    let q = l.0 in
    let k = length a.before in
    let f = notes_behind k a.earlier in
    let one = input_with input.config (q ∷ []) input.nonce in
    let all = input_with input.config (a.before ++ q ∷ []) input.nonce in
    let same_one : one ≡ latest input (Some qs) =
    ap (λ (x : List Request). input_with input.config x input.nonce) (sym l.1) in
    let same_all : all ≡ input =
    ap (λ (x : List Request). input_with input.config x input.nonce)
    (ap (λ (x : List Request). a.before ++ x) (sym l.1)
    ∙ sym a.are) in
    let w =
    run_where IsOfRequest f (map_end f) (rules_by notes_book one) (rules_by notes_book all)
    (last_view input.config input.nonce q a.before a.earlier) (Waits notes put []) bytes (l.2, l.3, l.4) in (
      sym (carried input done put [] bytes t is)
          ∙ ap (λ (n : Notes). runs input n put bytes) a.notes_are
          ∙ ap (λ (i : Input). runs i (f notes) put bytes) (sym same_all)
          ∙ w.0
          ∙ ap (λ (i : Input). map_course f (map_end f) (runs i notes put bytes)) same_one,
      subst (λ (i : Input). Within IsOfRequest (runs i notes put bytes)) same_one w.1,
    )

-- the requests stay
last_on : (asked : Option (List Request)) (before : List Request) (earlier : List Answer) (old new : Notes)
    → IsLastSegment asked before earlier old → IsOf asked new → IsLastSegment asked before earlier new
last_on None before earlier old new l is = l
last_on (Some qs) before earlier old new l is = (l.0, l.1, is.0, is.1, is.2)

-- where the machine waits between two messages, the conversation does
pub comes_on : (input : Input) (asked : Option (List Request)) (notes new : Notes) (done put bytes out : List ℕ)
    → PushWaits input asked notes done put
    → ((sent : List ℕ) → runs (latest input asked) notes sent bytes ≡ Waits new (sent ++ out) [])
    → PushWaits input asked new (done ++ bytes) (put ++ out)
comes_on input asked notes new done put bytes out c leads =
    let a = c.notes_at in
    let f = notes_behind (length a.before) a.earlier in
    let w = wide_run input asked notes c.talk done put bytes a c.waits in
    let there : noted input (conversation input (done ++ bytes)) ≡ Waits (f new) (put ++ out) [] =
    w.0 ∙ ap (map_course f (map_end f)) (leads put) in
    let t = waits_in input (conversation input (done ++ bytes)) (f new) (put ++ out) [] there in
    record {
      talk = t.0;
      waits = t.1;
      notes_at = record {
        before = a.before;
        earlier = a.earlier;
        are = a.are;
        notes_are = sym t.2;
        last = last_on asked a.before a.earlier notes new a.last (subst (Within (IsOf asked)) (leads put) w.1);
      };
    }

-- where the machine ends, the conversation does
pub comes_over : (input : Input) (asked : Option (List Request)) (notes : Notes) (done put bytes : List ℕ)
    (end : End Notes) (c : PushWaits input asked notes done put)
    → ((sent : List ℕ) → runs (latest input asked) notes sent bytes ≡ Over end sent)
    → (e : Ending) × (conversation input (done ++ bytes) ≡ Over e put)
    × (map_end (view input) e ≡ map_end (notes_behind (length c.notes_at.before) c.notes_at.earlier) end)
comes_over input asked notes done put bytes end c leads =
    let a = c.notes_at in
    let f = notes_behind (length a.before) a.earlier in
    let w = wide_run input asked notes c.talk done put bytes a c.waits in
    over_in input (conversation input (done ++ bytes)) (map_end f end) put (w.0
    ∙ ap (map_course f (map_end f)) (leads put))

-- with the front of a message behind it, it waits within the message
pub comes_waits : (input : Input) (asked : Option (List Request)) (notes : Notes) (done put bytes : List ℕ)
    (c : PushWaits input asked notes done put)
    → version_front notes.standing.version bytes ≡ More
    → conversation input (done ++ bytes) ≡ Waits c.talk put bytes
unfolding conversation
comes_waits input asked notes done put bytes c more =
    let rules = talk_rules input in
    let same : standing_of input.config (heard_of c.talk) ≡ notes.standing =
    ap (λ (n : Notes). n.standing) c.notes_at.notes_are in
    run_append rules (beginning input) done bytes
    ∙ ap (λ x. run rules x bytes) c.waits
    ∙ run_more rules (steady_by (talk_book input) input) c.talk put bytes
    (ap (λ s. version_front s.version bytes) same ∙ more)

-- what was put out stays put out
pub comes_begins : (input : Input) (asked : Option (List Request)) (notes : Notes) (done put bytes : List ℕ)
    → PushWaits input asked notes done put → Begins (conversation input (done ++ bytes)) put
comes_begins input asked notes done put bytes c =
    begins_on input done bytes put (subst (λ x. Begins x put) (sym c.waits) ([], sym (append-nil put)))

-- ---- the end of a segment

-- a message without its last byte is none yet
part_waits : (input : Input) (notes : Notes) (g : List ℕ) (m : Backend) (len : ℕ)
    → front notes.standing.version g ≡ IsWhole m len → length g ≡ len
    → version_front notes.standing.version (take (len - 1) g) ≡ More
part_waits input notes g m len whole long =
    let v = notes.standing.version in
    let some = front_whole v g m len whole in
    fronts_wait (version_front v) g (take (len - 1) g) (drop (len - 1) g) m (steady_by notes_book input notes)
    (λ rest. reads_whole v (g ++ rest) m len (front_whole_more v g rest m len whole) ∙ ap (Whole m) (sym long))
    (sym (take-append-drop (len - 1) g))
    (omega (arith, length-take-le (len - 1) g (omega (arith, some.1)), some.0, long))

-- the events of a whole conversation
whole_heard : (t : Talk) → t.open_events ≡ [] → t.passed ≡ [] → heard_of t ≡ all_events t.closed
whole_heard t none clean =
    sym (clean_heard t clean) ∙ ap (λ (l : List Event). all_events t.closed ++ l) none
    ∙ append-nil (all_events t.closed)

no_tally_is : tally_of [] ≡ no_tally
unfolding tally_of
no_tally_is = refl

-- what spells a transcript is no shorter than what the conversation needs to end
none_left : (input : Input) (segments : List (List Event)) (t : Talk)
    (spelled rest front_bytes last put pending : List ℕ)
    → IsTranscript input segments → SpellsGot (first_standing input.config) (all_events segments) spelled
    → EncodesSent (all_events segments) put
    → spelled ++ rest ≡ front_bytes ++ last → length last ≡ 1
    → conversation input front_bytes ≡ Waits t put pending → rest ≡ []
none_left input segments t spelled [] front_bytes last put pending transcript got sent same one waits = refl
none_left input segments t spelled (b ∷ rest) front_bytes last put pending transcript got sent same one waits =
    let long = ap length same in
    let n = length rest in
    let count : length front_bytes ≡ length spelled + n =
    omega (arith, long, length-append spelled (b ∷ rest), length-append front_bytes last, one) in
    let part : front_bytes ≡ spelled ++ take n (b ∷ rest) =
    sym (take_at front_bytes last (length front_bytes) refl) ∙ ap (take (length front_bytes)) (sym same)
    ∙ ap (λ k. take k (spelled ++ b ∷ rest)) count ∙ take-append-add spelled (b ∷ rest) n in
    let over =
    ap (conversation input) part
    ∙ conversation_completes input segments spelled put (take n (b ∷ rest)) transcript got sent in
    absurd (cc)

-- behind the message that closes a segment the bytes make a transcript
pub record Closes (input : Input) (before : List Request) (earlier : List Answer) (new : Notes)
    (done put : List ℕ) : Type 0 where
  pub segments : List (List Event)
  pub transcript : IsTranscript input segments
  pub got : SpellsGot (first_standing input.config) (all_events segments) done
  pub put_is : EncodesSent (all_events segments) put
  pub standing : new.standing ≡ standing_of input.config (all_events segments)
  pub answers : answers_of input.requests (drop 1 segments) ≡ earlier ++ new.answers
  pub fresh : (new.tally ≡ no_tally) × (new.first_passed ≡ None)

pub closes : (input : Input) (asked : Option (List Request)) (notes new : Notes) (done put left : List ℕ)
    (m : Backend) (len : ℕ) (c : PushWaits input asked notes done put)
    → front notes.standing.version left ≡ IsWhole m len
    → turn_by notes_book (latest input asked) notes m notes.first_passed ≡ Ends (whole_end new) []
    → Closes input c.notes_at.before c.notes_at.earlier new (done ++ take len left) put
closes input asked notes new done put left m len c whole turn =
    let v = notes.standing.version in
    let a = c.notes_at in
    let f = notes_behind (length a.before) a.earlier in
    let some = front_whole v left m len whole in
    let g = take len left in
    let long : length g ≡ len = length-take-le len left some.1 in
    let alone = front_take v left m len whole in
    let one = latest input asked in
    let o =
    comes_over input asked notes done put g (whole_end new) c
    (λ sent. run_ends (rules_by notes_book one) (steady_by notes_book one) notes sent g m len
    (whole_end new) (reads_whole v g m len alone) turn) in
    let e = o.0 in
    let t = e.notes in
    let outcome : e.outcome ≡ Complete = ap (λ (x : End Notes). x.outcome) o.2 in
    let all = done ++ g in
    let final = subst (SoundAt input all) o.1 (conversation_sound input all) in
    let cause : Cause input t final.rest Complete = subst (Cause input t final.rest) outcome final.cause in
    let heard = whole_heard t cause.1 cause.2 in
    let got : SpellsGot (first_standing input.config) (all_events t.closed) final.done =
    subst (λ (es : List Event). SpellsGot (first_standing input.config) es final.done) heard final.got in
    let sent : EncodesSent (all_events t.closed) put =
    subst (λ (es : List Event). EncodesSent es put) heard final.put in
    let part = take (len - 1) g in
    let last = drop (len - 1) g in
    let cut : done ++ g ≡ (done ++ part) ++ last =
    ap (λ (l : List ℕ). done ++ l) (sym (take-append-drop (len - 1) g)) ∙ sym (append_assoc done part last) in
    let none : final.rest ≡ [] =
    none_left input t.closed c.talk final.done final.rest (done ++ part) last put part cause.0 got sent
    (sym final.begins
    ∙ cut) (omega (arith, length-drop (len - 1) g, long, some.0))
    (comes_waits input asked notes done put part c (part_waits input notes g m len alone long)) in
    let is : all ≡ final.done =
    final.begins ∙ ap (λ (l : List ℕ). final.done ++ l) none ∙ append-nil final.done in
    let noted_is : view input t ≡ f (record new { closed = suc new.closed }) =
    ap (λ (x : End Notes). x.notes) o.2 in
    record {
      segments = t.closed;
      transcript = cause.0;
      got = subst (SpellsGot (first_standing input.config) (all_events t.closed)) (sym is) got;
      put_is = sent;
      standing = sym (ap (λ (n : Notes). n.standing) noted_is) ∙ ap (standing_of input.config) heard;
      answers = ap (λ (n : Notes). n.answers) noted_is;
      fresh = (
        sym (ap (λ (n : Notes). n.tally) noted_is) ∙ ap tally_of cause.1 ∙ no_tally_is,
        sym (ap (λ (n : Notes). n.first_passed) noted_is) ∙ ap first_passed cause.2,
      );
    }
