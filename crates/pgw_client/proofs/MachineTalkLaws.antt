-- From what a client notes to the conversation.
use Rattle.std.proofs.Common.{◌≡◌, ◌<◌, ◌≤◌, ℕ, ◌+◌, List, [], ◌∷◌, ◌++◌, length, take, drop, Option, Some, None, Result, Ok, Err, Bool, true, false, cond, inl, inr, arith, refl, ◌∙◌, ap, sym, subst, append_assoc, length-append}
use Rattle.std.proofs.lemmas.List.{append-nil, length-take-le, take-append-drop}
use Rattle.pgw_types.specs.declared.error.PgWireError.{PgWireError}
use Rattle.pgw_wire.specs.Framing.{encoded, body_or}
use Rattle.pgw_frontend.specs.Frontend.{encoding, encodings, both}
use Rattle.pgw_backend.specs.declared.client_error.PgWireClientError.{PgWireClientError as ClientError}
use Rattle.pgw_backend.specs.declared.client_error.PgWireClientError.TheVariants as client
use Rattle.pgw_link.specs.Tape.{Tape}
use Rattle.pgw_machine.specs.Course.{Front, More, Bad, Whole, Move, On, Ends, Course, Waits, Over, Rules, onto, eat, feed, run, sent_of, map_course}
use Rattle.pgw_session.specs.declared.types.SessionReport.{SessionReport}
use Rattle.pgw_session.specs.declared.notes.Notes.{Notes}
use Rattle.pgw_session.specs.Input.{Input}
use Rattle.pgw_session.specs.Events.{Event, all_events}
use Rattle.pgw_session.specs.Standings.{standing_of}
use Rattle.pgw_session.specs.Segments.{startup_message}
use Rattle.pgw_session.specs.Transcript.{report_of}
use Rattle.pgw_session.specs.Machine.{End, Complete, map_end, error_of, sending, beginning_by, rules_by}
use Rattle.pgw_session.specs.Talk.{Talk, Ending, conversation, heard_of}
use Rattle.pgw_session.specs.Notes.{notes_book, first_notes, noted_of, view}
use Rattle.pgw_session.proofs.Events.{clean_heard}
use Rattle.pgw_session.proofs.Complete.{prefix_split}
use Rattle.pgw_session.proofs.Sound.{SoundAt, Cause, conversation_sound}
use Rattle.pgw_session.proofs.NotesLaws.{notes_tell}
use Rattle.pgw_machine.specs.Play.{course_behind}
use Rattle.pgw_dialogue.specs.Machine.{NotesCourse, StartsRun, notes_end, report_at, runs}
use Rattle.pgw_client.specs.SessionSteps.{Paused, SessionReason, Conversed, LinkSession, Stopping, Reason, memory, unsent, stopped, failed, unread, at_limit, at_end}
use Rattle.pgw_link.specs.Sending.{Wrote, WroteSome}
use Rattle.pgw_dialogue.specs.Machine.{talk_end}
use Rattle.pgw_machine.specs.Course.{CourseWaits}
use Rattle.pgw_dialogue.proofs.WireLaws.{memory_or}

cancel : (xs a b : List ℕ) → xs ++ a ≡ xs ++ b → a ≡ b
cancel [] a b e = e
cancel (x ∷ xs) a b e = cancel xs a b (cc)

-- ---- a course behind what was written before

onto_behind : {S R : Type 0} (before sent : List ℕ) (move : Move S R)
    → onto (before ++ sent) move ≡ course_behind before (onto sent move)
onto_behind before sent (On state out) = ap (λ (w : List ℕ). Waits state w []) (append_assoc before sent out)
onto_behind before sent (Ends end out) = ap (Over end) (append_assoc before sent out)

eat_behind : {S R M E : Type 0} (rules : Rules S R M E) (before : List ℕ) (state : S) (sent pending : List ℕ)
    (f : Front M E)
    → eat rules state (before ++ sent) pending f ≡ course_behind before (eat rules state sent pending f)
eat_behind rules before state sent pending More = refl
eat_behind rules before state sent pending (Bad why) = refl
eat_behind rules before state sent pending (Whole m len) = onto_behind before sent (rules.step state m)

feed_behind : {S R M E : Type 0} (rules : Rules S R M E) (before : List ℕ) (c : Course S R) (byte : ℕ)
    → feed rules (course_behind before c) byte ≡ course_behind before (feed rules c byte)
feed_behind rules before (Waits state sent pending) byte =
    eat_behind rules before state sent (pending ++ byte ∷ []) (rules.read state (pending ++ byte ∷ []))
feed_behind rules before (Over end sent) byte = refl

run_behind : {S R M E : Type 0} (rules : Rules S R M E) (before : List ℕ) (c : Course S R) (bytes : List ℕ)
    → run rules (course_behind before c) bytes ≡ course_behind before (run rules c bytes)
unfolding run
run_behind rules before c [] = refl
run_behind rules before c (byte ∷ bytes) =
    ap (λ d. run rules d bytes) (feed_behind rules before c byte)
    ∙ run_behind rules before (feed rules c byte) bytes

-- ---- the notes' course as the conversation's

abbrev told : Input → List ℕ → Course Talk Ending → NotesCourse
told input before c = course_behind before (map_course (view input) (map_end (view input)) c)

over_in : (input : Input) (before : List ℕ) (c : Course Talk Ending) (end : End Notes) (w : List ℕ)
    → told input before c ≡ Over end w
    → (e : Ending) × (s : List ℕ) × (c ≡ Over e s) × (map_end (view input) e ≡ end) × (w ≡ before ++ s)
over_in input before (Waits t s p) end w is = cc
over_in input before (Over e s) end w is = (e, s, refl, cc, cc)

waits_in : (input : Input) (before : List ℕ) (c : Course Talk Ending) (notes : Notes) (w pending : List ℕ)
    → told input before c ≡ Waits notes w pending
    → (t : Talk) × (s : List ℕ) × (c ≡ Waits t s pending) × (w ≡ before ++ s) × (notes ≡ view input t)
waits_in input before (Waits t s p) notes w pending is = (t, s, ap (Waits t s) (cc), cc, cc)
waits_in input before (Over e s) notes w pending is = cc

sent_in : (input : Input) (before : List ℕ) (c : Course Talk Ending)
    → sent_of (told input before c) ≡ before ++ sent_of c
sent_in input before (Waits t s p) = refl
sent_in input before (Over e s) = refl

told_nothing : (input : Input) (c : Course Talk Ending)
    → told input [] c ≡ map_course (view input) (map_end (view input)) c
told_nothing input (Waits t s p) = refl
told_nothing input (Over e s) = refl

-- before the first byte
start_is : (input : Input)
    → beginning_by notes_book input (first_notes input) ≡ map_course (view input) (map_end (view input))
    (conversation input [])
unfolding noted_of run
start_is input = notes_tell input []

-- the run over the bytes taken
course_is : (input : Input) (notes : Notes) (before out wrote taken : List ℕ)
    → beginning_by notes_book input (first_notes input) ≡ Waits notes out [] → wrote ≡ before ++ out
    → runs input notes wrote taken ≡ told input before (conversation input taken)
unfolding noted_of
course_is input notes before out wrote taken start are =
    let rules = rules_by notes_book input in
    ap (λ (w : List ℕ). run rules (Waits notes w []) taken) are
    ∙ run_behind rules before (Waits notes out []) taken
    ∙ ap (λ c. course_behind before (run rules c taken)) (sym start)
    ∙ ap (course_behind before) (notes_tell input taken)

-- ---- the parts that an error's causes speak of

over_at : (input : Input) (conv : Course Talk Ending) (before : List ℕ) {end : End Notes} {w m : List ℕ}
    → told input before conv ≡ Over end w → w ≡ before ++ m
    → (e : Ending) × (conv ≡ Over e m) × (map_end (view input) e ≡ end)
over_at input conv before {end} {w} {m} is grew =
    let o = over_in input before conv end w is in
    (o.0, o.2 ∙ ap (Over o.0) (cancel before o.1 m (sym o.4 ∙ grew)), o.3)

waiting_at : (input : Input) (conv : Course Talk Ending) (before : List ℕ) {w m : List ℕ}
    → CourseWaits (told input before conv) w → w ≡ before ++ m → CourseWaits conv m
waiting_at input conv before {w} {m} is grew =
    let o = waits_in input before conv is.0 w is.1 is.2 in
    (o.0, is.1, o.2 ∙ ap (λ (s : List ℕ). Waits o.0 s is.1) (cancel before o.1 m (sym o.3 ∙ grew)))

lift_stopping : (input : Input) (conv : Course Talk Ending) (before : List ℕ) {new : Tape} {w m : List ℕ}
    {e : ClientError}
    → w ≡ before ++ m → Stopping (told input before conv) w 0 new e → Stopping conv m (length before) new e
lift_stopping input conv before grew (memory is) = memory is
lift_stopping input conv before grew (unsent io short) =
    unsent io (omega (arith, short, ap length (sent_in input before conv), length-append before (sent_of conv)))
lift_stopping input conv before grew (stopped end is why) =
    let o =
    over_at input conv before is grew in stopped o.0 o.1 (ap (λ (s : End Notes). error_of s.outcome) o.2
    ∙ why)

lift_reason : (input : Input) (conv : Course Talk Ending) (before : List ℕ) {old mid new : Tape}
    {w m taken : List ℕ} {limit : ℕ} {e : ClientError}
    → w ≡ before ++ m → mid.ended ≡ old.ended
    → Reason notes_end (told input before conv) w 0 taken limit mid new e
    → Reason talk_end conv m (length before) taken limit old new e
lift_reason input conv before grew same (failed s) = failed (lift_stopping input conv before grew s)
lift_reason input conv before grew same (unread io waiting) =
    unread io (waiting_at input conv before waiting grew)
lift_reason input conv before grew same (at_limit is waiting at) =
    at_limit is (waiting_at input conv before waiting grew) at
lift_reason input conv before {w = w} {m = m} grew same (at_end notes pending is met end) =
    let o = waits_in input before conv notes w pending is in
    let asked = met.asked in
    at_end o.0 pending (o.2 ∙ ap (λ (s : List ℕ). Waits o.0 s pending) (cancel before o.1 m (sym o.3 ∙ grew)))
    (record { below = met.below; asked = (asked.0, asked.1 ∙ ap (λ (e : List ℕ). e ++ asked.0 ∷ []) same) }) (end
    ∙ ap notes_end o.4)

lift_paused : (input : Input) (conv : Course Talk Ending) (before : List ℕ) (old mid new : Tape) {w m : List ℕ}
    → w ≡ before ++ m → mid.ended ≡ old.ended → Paused (told input before conv) w mid new → Paused conv m old new
lift_paused input conv before old mid new grew same paused = elim paused [
  | inl still ↦ inl (still ∙ same)
  | inr p ↦ inr (
    p.0
        ∙ ap (λ (e : List ℕ). e ++ length new.wrote ∷ []) same,
    waiting_at input conv before p.1 grew,
  )
]

-- ---- a session

pub lift_err : {next : Notes} {old mid new : Tape} (input : Input) (notes : Notes) (limit : ℕ) (out : List ℕ)
    (e : ClientError)
    → StartsRun input out (Ok notes) → Wrote old mid out → Conversed input notes next limit mid new (Err e)
    → LinkSession input limit old new (Err e)
lift_err {next} {old} {mid} {new} input notes limit out e start wrote conversed =
    let conv = conversation input conversed.taken in
    let is = course_is input notes old.wrote out mid.wrote conversed.taken start wrote.wrote in
    let why = subst (λ c. SessionReason c conversed.taken limit mid new e) is conversed.answered in
    let len_mid : length mid.wrote ≡ length old.wrote + length out =
    ap length wrote.wrote ∙ length-append old.wrote out in
    let grew =
    prefix_split old.wrote new.wrote (sent_of conv) why.begins.0 (sym (sent_in input old.wrote conv)
    ∙ why.begins.1) (omega (arith, len_mid, conversed.no_shorter)) in
    let len_new : length new.wrote ≡ length old.wrote + length grew.0 =
    ap length grew.1 ∙ length-append old.wrote grew.0 in
    let r = wrote.reads_nothing in
    record {
      taken = conversed.taken;
      took = conversed.took ∙ ap (λ (t : List ℕ). t ++ conversed.taken) r.took;
      within = conversed.within;
      sent = grew.0;
      wrote = grew.1;
      held = record {
        begins = (why.begins.0, grew.2);
        reason = lift_reason input conv old.wrote grew.1 r.ended why.reason;
      };
      reads = omega (arith, conversed.reads, r.reads);
      writes = omega (arith, conversed.writes, wrote.writes, len_mid, len_new);
      paused =
          lift_paused input conv old.wrote old mid new grew.1 r.ended
          (subst (λ c. Paused c new.wrote mid new) is conversed.paused);
      flushed = λ no. inr (conversed.flushed (λ io. no (cc)));
    }

whole_report : (input : Input) (e : Ending) → (e.notes).open_events ≡ [] → (e.notes).passed ≡ []
    → report_at (view input e.notes) ≡ report_of input (e.notes).closed
unfolding report_of
whole_report input e none clean =
    let same : heard_of e.notes ≡ all_events (e.notes).closed =
    sym (clean_heard e.notes clean) ∙ ap (λ (l : List Event). all_events (e.notes).closed ++ l) none
    ∙ append-nil (all_events (e.notes).closed) in
    let r = ap (standing_of input.config) same in
    cc

pub lift_ok : {next : Notes} {old mid new : Tape} (input : Input) (notes : Notes) (limit : ℕ) (out : List ℕ)
    (done : Unit {0}) (report : SessionReport)
    → StartsRun input out (Ok notes) → Wrote old mid out → Conversed input notes next limit mid new (Ok done)
    → report ≡ report_at next → LinkSession input limit old new (Ok report)
lift_ok {next} {old} {mid} {new} input notes limit out done report start wrote conversed reported =
    let conv = conversation input conversed.taken in
    let is = course_is input notes old.wrote out mid.wrote conversed.taken start wrote.wrote in
    let answered = conversed.answered in
    let o = over_in input old.wrote conv answered.0 new.wrote (sym is ∙ answered.1) in
    let len_mid : length mid.wrote ≡ length old.wrote + length out =
    ap length wrote.wrote ∙ length-append old.wrote out in
    let len_new : length new.wrote ≡ length old.wrote + length o.1 =
    ap length o.4 ∙ length-append old.wrote o.1 in
    let r = wrote.reads_nothing in
    let outcome : (o.0).outcome ≡ Complete = ap (λ (s : End Notes). s.outcome) o.3 ∙ (answered.2).outcome in
    let final = subst (SoundAt input conversed.taken) o.2 (conversation_sound input conversed.taken) in
    let whole : Cause input (o.0).notes final.rest Complete =
    subst (Cause input (o.0).notes final.rest) outcome final.cause in
    record {
      taken = conversed.taken;
      took = conversed.took ∙ ap (λ (t : List ℕ). t ++ conversed.taken) r.took;
      within = conversed.within;
      sent = o.1;
      wrote = o.4;
      held = (
        (o.0).notes,
        o.2 ∙ ap (λ x. Over (record { notes = (o.0).notes; outcome = x }) o.1) outcome,
        reported ∙ sym (answered.2).reported ∙ sym (ap (λ (s : End Notes). report_at s.notes) o.3)
            ∙ whole_report input o.0 whole.1 whole.2,
      );
      reads = omega (arith, conversed.reads, r.reads);
      writes = omega (arith, conversed.writes, wrote.writes, len_mid, len_new);
      paused =
          lift_paused input conv old.wrote old mid new o.4 r.ended
          (subst (λ c. Paused c new.wrote mid new) is conversed.paused);
      flushed = λ no. inr (conversed.flushed (λ io. no (cc)));
    }

-- ---- the startup message

-- it could not be made
pub unstarted : (input : Input) (limit : ℕ) (tape : Tape) (out : List ℕ) (e : ClientError)
    → StartsRun input out (Err e) → LinkSession input limit tape tape (Err e)
unstarted input limit tape out e start =
    let conv = conversation input [] in
    record {
      taken = [];
      took = sym (append-nil tape.took);
      within = omega arith;
      sent = [];
      wrote = sym (append-nil tape.wrote);
      held = record {
        begins = (sent_of conv, refl);
        reason = elim (memory_or e) [
          | inl is ↦ failed (memory is)
          | inr ne ↦
              let s = start.1 ne in
              let o = over_at input conv [] (told_nothing input conv ∙ sym (start_is input) ∙ s.1) refl in
              failed (stopped o.0 o.1 (ap (λ (x : End Notes). error_of x.outcome) o.2 ∙ s.2))
        ];
      };
      reads = omega arith;
      writes = omega arith;
      paused = inl refl;
      flushed = λ no. inl (refl, refl);
    }

-- what is written of a message takes a byte at least
encoded_some : (b : Bool) (e : PgWireError) (fault : Option PgWireError) (body bytes : List ℕ) → 0 < length body
    → cond b (Err e) (body_or fault body) ≡ Ok bytes → 0 < length bytes
encoded_some true e fault body bytes some is = cc
encoded_some false e None body bytes some is = let same : body ≡ bytes = cc in omega (arith, ap length same, some)
encoded_some false e (Some why) body bytes some is = cc

startup_some : (input : Input) (bytes : List ℕ) → encoding (startup_message input) ≡ Ok bytes → 0 < length bytes
unfolding encoding encoded
startup_some input bytes is = encoded_some _ _ _ _ bytes (omega arith) is

both_some : (a : Result (List ℕ) PgWireError) (bytes : List ℕ) → ((x : List ℕ) → a ≡ Ok x → 0 < length x)
    → both a (Ok []) ≡ Ok bytes → 0 < length bytes
both_some (Err e) bytes some is = cc
both_some (Ok a) bytes some is =
    let e : bytes ≡ a ++ [] = cc in omega (arith, ap length e, length-append a [], some a refl)

started_bytes : (first second notes : Notes) (o : Result (List ℕ) PgWireError) (out : List ℕ)
    → onto [] (sending first second o) ≡ Waits notes out [] → o ≡ Ok out
started_bytes first second notes (Err e) out is = cc
started_bytes first second notes (Ok bytes) out is = ap Ok (cc)

-- it was not all written, or not flushed
pub unsent_start : {old new : Tape} (input : Input) (notes : Notes) (limit : ℕ) (out : List ℕ)
    → old.flushed ≤ length old.wrote → StartsRun input out (Ok notes) → WroteSome old new out
    → LinkSession input limit old new (Err client.IoError)
unsent_start {old} {new} input notes limit out flushed_in start wrote =
    let conv = conversation input [] in
    let some =
    both_some (encoding (startup_message input)) out (startup_some input)
    (started_bytes _ _ notes (encodings (startup_message input ∷ [])) out start) in
    let sent : out ≡ sent_of conv =
    ap sent_of (sym start ∙ start_is input ∙ sym (told_nothing input conv)) ∙ sent_in input [] conv in
    let r = wrote.reads_nothing in
    let k = wrote.count in
    record {
      taken = [];
      took = r.took ∙ sym (append-nil old.took);
      within = omega arith;
      sent = take k out;
      wrote = wrote.wrote;
      held = record {
        begins = (drop k out, sym sent ∙ sym (take-append-drop k out));
        reason = failed (unsent refl (omega (arith, wrote.flushed, flushed_in, ap length sent, some)));
      };
      reads = omega (arith, r.reads);
      writes = omega (arith, wrote.writes, length-take-le k out wrote.count_in);
      paused = inl r.ended;
      flushed = λ no. absurd (no refl);
    }
