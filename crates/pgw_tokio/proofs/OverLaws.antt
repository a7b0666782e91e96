-- A session over a stream keeps the contract of a session over a link.
use Rattle.std.proofs.Common.{◌≡◌, ◌<◌, ◌≤◌, ℕ, ◌+◌, List, [], ◌∷◌, ◌++◌, length, Option, Some, None, Result, Ok, Err, false, inl, inr, arith, refl, ◌∙◌, ap, sym, subst, append_assoc, length-append}
use Rattle.std.proofs.lemmas.List.{append-nil}
use Rattle.std.specs.Prelude.{IsErrOf, IsSomeAnd}
use Rattle.std.specs.declared.io.Error.{Error}
use Rattle.tokio.specs.declared.io.async_read.AsyncRead as AsyncRead
use Rattle.tokio.specs.declared.io.async_write.AsyncWrite as AsyncWrite
use Rattle.pgw_backend.specs.declared.client_error.PgWireClientError.{PgWireClientError as ClientError}
use Rattle.pgw_backend.specs.declared.client_error.PgWireClientError.TheVariants as client
use Rattle.pgw_machine.specs.Course.{Begins, Waits, Over, CourseWaits, sent_of}
use Rattle.pgw_link.specs.Tape.{Tape, new_tape}
use Rattle.pgw_session.specs.declared.types.SessionReport.{SessionReport}
use Rattle.pgw_session.specs.Input.{Input}
use Rattle.pgw_session.specs.Machine.{Complete}
use Rattle.pgw_session.specs.Talk.{Talk, conversation}
use Rattle.pgw_dialogue.specs.Dialogue.{Stands}
use Rattle.pgw_dialogue.specs.Machine.{notes_end, report_at, talk_end}
use Rattle.pgw_dialogue.specs.Wire.{IsEndError, Unless}
use Rattle.pgw_dialogue.specs.declared.dialogue.Dialogue.{Dialogue}
use Rattle.pgw_dialogue.specs.declared.phase.State.{State}
use Rattle.pgw_dialogue.specs.declared.phase.State.TheVariants as state
use Rattle.pgw_dialogue.proofs.DialogueLaws.{stands_in, taken_below}
use Rattle.pgw_dialogue.proofs.ToldLaws.{sent_is}
use Rattle.pgw_dialogue.proofs.WireLaws.{memory_or}
use Rattle.pgw_client.specs.SessionSteps.{Caused, HoldsClientSession as SessionHeld, Reason, LinkSession, memory, unsent, stopped, failed, unread, at_limit, at_end}
use Rattle.pgw_tokio_moving.specs.Calls.{Call, Gave, Ended, Wrote, Flushed, Waited, Unread, Unwritten, Unflushed, Trail, fault_of}
use Rattle.pgw_tokio_moving.specs.declared.engine.Engine as Engine
use Rattle.pgw_tokio_moving.specs.declared.engine.Turn.TheVariants as turn
use Rattle.pgw_tokio_moving.specs.declared.exchange.Stop.{Stop}
use Rattle.pgw_tokio_moving.specs.declared.exchange.Stop.TheVariants as stop
use Rattle.pgw_tokio_moving.specs.Moving.{Mover, IsSent, Step, Stops as Ends_by}
use Rattle.pgw_tokio.specs.declared.engine.SessionEngine.{SessionEngine}
use Rattle.pgw_tokio.specs.Stream.{AnswersAs, AnswersOver}
use Rattle.pgw_tokio.specs.Tape.{stream_errors, error_list, with_call, tape_after}
use Rattle.pgw_tokio.proofs.UnderLaws.{Fails, Flushing, StandsSo, Stops, UnderWay, flushed_in, going_in}

-- ---- what a dialogue has put out

by_state : (s : State) (input : Input) (limit : ℕ) (d : Dialogue) (taken put : List ℕ) → d.state ≡ s
    → length taken ≤ limit → Stands input limit d taken put → Begins (conversation input taken) put
by_state state.Starved input limit d taken put is within stands =
    subst (λ (l : List ℕ). Begins (conversation input l) put) (taken_below limit taken within)
    (stands_in input limit d taken put state.Starved is stands)
by_state s input limit d taken put is within stands = (
  [],
  subst (λ (l : List ℕ). sent_of (conversation input l) ≡ put) (taken_below limit taken within)
      (sent_is input limit d taken put stands (λ lacks. cc)) ∙ sym (append-nil put),
)

begins : (input : Input) (limit : ℕ) (d : Dialogue) (taken put : List ℕ) → length taken ≤ limit
    → Stands input limit d taken put → Begins (conversation input taken) put
begins input limit d taken put = by_state d.state input limit d taken put refl

-- ---- errors

err_same : {a b : ClientError} → ◌≡◌ {A = Result SessionReport ClientError} (Err a) (Err b) → a ≡ b
err_same is = cc

not_io : (e : ClientError) → IsEndError e → e ≡ client.IoError → ⊥
not_io e end is = subst IsEndError is end

-- ---- a session of a tape

-- where it waits for more, with all that is due written and flushed
waits : {S : Type 0} (input : Input) (limit : ℕ) (t : Tape) (h : Mover S SessionEngine)
    (u : UnderWay input limit t h)
    → h.turn ≡ turn.More → h.out ≡ [] → (talk : Talk) ×
    (conversation input t.took ≡ Waits talk t.wrote (u.dialogue).inbox)
    × (notes_end (u.dialogue).notes ≡ talk_end talk)
waits input limit t h u more empty =
    let going = going_in input limit u.dialogue t.took (t.wrote ++ h.out) h.turn h.engine.refusal more u.so in
    let s = stands_in input limit u.dialogue t.took (t.wrote ++ h.out) state.Going going u.stands in
    let put : t.wrote ++ h.out ≡ t.wrote = ap (λ (l : List ℕ). t.wrote ++ l) empty ∙ append-nil t.wrote in
    (s.0, s.1 ∙ ap (λ (l : List ℕ). Waits s.0 l (u.dialogue).inbox) put, ap notes_end s.2)

-- why it fails
caused : {new : Tape} (input : Input) (limit : ℕ) (taken put : List ℕ) (e : ClientError)
    → Begins (conversation input taken) put → Stops input limit taken put e
    → Caused (conversation input taken) taken limit put new_tape new e
caused input limit taken put e b (inl is) = record { begins = b; reason = failed (memory is) }
caused input limit taken put e b (inr (inl over)) = record
    { begins = b; reason = failed (stopped over.0 over.1 over.2) }
caused input limit taken put e b (inr (inr short)) = record
    { begins = b; reason = at_limit short.0 short.1 short.2 }

module _ {S : Type 0} (input : Input) (limit : ℕ) where
  -- it is over, and all was written and flushed
  over_by : (t : Tape) (h : Mover S SessionEngine) (answer : Result SessionReport ClientError)
      → UnderWay input limit t h → h.out ≡ [] → h.unflushed ≡ false
      → SessionHeld input (conversation input t.took) t.took limit t.wrote new_tape t answer
      → LinkSession input limit new_tape t answer
  over_by t h answer u empty flushed held =
      let sure : Flushing false t = subst (λ b. Flushing b t) flushed u.flushing in
      record {
        taken = t.took;
        took = refl;
        within = omega (arith, u.room);
        sent = t.wrote;
        wrote = refl;
        held = held;
        reads = omega (arith, u.reads);
        writes = omega (arith, u.writes);
        paused = inl u.not_ended;
        flushed = λ no. inr sure;
      }

  put_is : (t : Tape) (h : Mover S SessionEngine) → h.out ≡ [] → t.wrote ++ h.out ≡ t.wrote
  put_is t h empty = ap (λ (l : List ℕ). t.wrote ++ l) empty ∙ append-nil t.wrote

  refused_by : (t : Tape) (h : Mover S SessionEngine) (e : ClientError) → UnderWay input limit t h → h.out ≡ []
      → h.unflushed ≡ false → h.turn ≡ turn.Over → h.engine.refusal ≡ Some e
      → LinkSession input limit new_tape t (Err e)
  refused_by t h e u empty flushed over is =
      let put = put_is t h empty in
      let within : length t.took ≤ limit = omega (arith, u.room) in
      let so = subst (λ o. StandsSo input limit turn.Over o u.dialogue t.took (t.wrote ++ h.out)) is
      (subst (λ x. StandsSo input limit x h.engine.refusal u.dialogue t.took (t.wrote ++ h.out)) over u.so) in
      let b = subst (Begins (conversation input t.took)) put
      (begins input limit u.dialogue t.took (t.wrote ++ h.out) within u.stands) in
      over_by t h (Err e) u empty flushed (caused input limit t.took t.wrote e b
      (subst (λ (l : List ℕ). Stops input limit t.took l e) put so.1))

  whole_by : (t : Tape) (h : Mover S SessionEngine) → (u : UnderWay input limit t h) → h.out ≡ []
      → h.unflushed ≡ false → h.turn ≡ turn.Over → h.engine.refusal ≡ None
      → LinkSession input limit new_tape t (Ok (report_at (u.dialogue).notes))
  whole_by t h u empty flushed over is =
      let put = put_is t h empty in
      let within : length t.took ≤ limit = omega (arith, u.room) in
      let done = subst (λ o. StandsSo input limit turn.Over o u.dialogue t.took (t.wrote ++ h.out)) is
      (subst (λ x. StandsSo input limit x h.engine.refusal u.dialogue t.took (t.wrote ++ h.out)) over u.so) in
      let s = stands_in input limit u.dialogue t.took (t.wrote ++ h.out) state.Done done u.stands in
      over_by t h (Ok (report_at (u.dialogue).notes)) u empty flushed (
        s.0,
        ap (conversation input) (sym (taken_below limit t.took within)) ∙ s.1
            ∙ ap (Over (record { notes = s.0; outcome = Complete })) put,
        s.2,
      )

  -- the end has come
  ended_by : (t : Tape) (h : Mover S SessionEngine) (e : ClientError) → (u : UnderWay input limit t h)
      → h.out ≡ []
      → h.unflushed ≡ false → h.turn ≡ turn.More → length t.took < limit
      → Unless e (e ≡ notes_end (u.dialogue).notes)
      → LinkSession input limit new_tape (with_call t Ended) (Err e)
  ended_by t h e u empty flushed more below means =
      let w = waits input limit t h u more empty in
      let sure : t.flushed ≡ length t.wrote = subst (λ b. Flushing b t) flushed u.flushing in
      let waiting : CourseWaits (conversation input t.took) t.wrote = (w.0, (u.dialogue).inbox, w.1) in
      let ended : t.ended ++ t.flushed ∷ [] ≡ [] ++ length t.wrote ∷ [] =
      ap (λ (l : List ℕ). l ++ t.flushed ∷ []) u.not_ended ∙ ap (λ (n : ℕ). n ∷ []) sure in
      record {
        taken = t.took;
        took = refl;
        within = omega (arith, u.room);
        sent = t.wrote;
        wrote = refl;
        held = record {
          begins = ([], ap sent_of w.1 ∙ sym (append-nil t.wrote));
          reason = elim (memory_or e) [
            | inl is ↦ failed (memory is)
            | inr not ↦ at_end w.0 (u.dialogue).inbox w.1
                (record { below = below; asked = (length t.wrote, ended) })
                (means not ∙ w.2)
          ];
        };
        reads = omega (arith, u.reads);
        writes = omega (arith, u.writes);
        paused = inr (ended, waiting);
        flushed = λ no. inr sure;
      }

  -- a call failed
  faulted : (t new : Tape) (h : Mover S SessionEngine) → UnderWay input limit t h → new.took ≡ t.took
      → new.wrote ≡ t.wrote → new.ended ≡ t.ended → new.reads ≤ t.reads + 1 → new.writes ≤ t.writes + 1
      → Reason talk_end (conversation input t.took) t.wrote 0 t.took limit new_tape new client.IoError
      → Begins (conversation input t.took) t.wrote → LinkSession input limit new_tape new (Err client.IoError)
  faulted t new h u took wrote ended reads writes reason b = record {
    taken = t.took;
    took = took;
    within = omega (arith, u.room);
    sent = t.wrote;
    wrote = wrote;
    held = record { begins = b; reason = reason };
    reads = omega (arith, u.reads, reads);
    writes = omega (arith, u.writes, writes);
    paused = inl (ended ∙ u.not_ended);
    flushed = λ no. absurd (no refl);
  }

  begun_on : (t : Tape) (h : Mover S SessionEngine) → (u : UnderWay input limit t h)
      → (more : List ℕ) × (sent_of (conversation input t.took) ≡ t.wrote ++ (h.out ++ more))
  begun_on t h u =
      let b = begins input limit u.dialogue t.took (t.wrote ++ h.out) (omega (arith, u.room)) u.stands in
      (b.0, b.1 ∙ append_assoc t.wrote h.out b.0)

  refusal_so : (t : Tape) (h : Mover S SessionEngine) (e : ClientError) → UnderWay input limit t h
      → h.turn ≡ turn.Over → h.engine.refusal ≡ Some e → e ≡ client.IoError → ⊥
  refusal_so t h e u over is =
      let so : Fails input limit t.took (t.wrote ++ h.out) e =
      subst (λ o. StandsSo input limit turn.Over o u.dialogue t.took (t.wrote ++ h.out)) is
      (subst (λ x. StandsSo input limit x h.engine.refusal u.dialogue t.took (t.wrote ++ h.out)) over u.so) in
      so.0

-- ---- how an exchange ends

-- what the last call makes of it
pub record Concluded {S : Type 0} (reader : AsyncRead.Ghosts S) (writer : AsyncWrite.Ghosts S) (input : Input)
    (limit : ℕ) (t : Tape) (mid new : S) (last : List Call) (answer : Result SessionReport ClientError)
    (fault : Option Error) : Type 0 where
  pub session : LinkSession input limit new_tape (tape_after t last) answer
  pub faults : stream_errors last ≡ error_list fault
  pub trail : Trail reader writer mid last new
  pub io : IsErrOf answer client.IoError → (e : Error) × (fault ≡ Some e)
  pub failing : (e : Error) → fault ≡ Some e → IsErrOf answer client.IoError

module _ {S : Type 0} (reader : AsyncRead.Ghosts S) (writer : AsyncWrite.Ghosts S)
    (engine : Engine.Ghosts SessionEngine) (input : Input) (limit : ℕ) where
  over_refused : (t : Tape) (h : Mover S SessionEngine) (o : Option ClientError)
      (answer : Result SessionReport ClientError) (fault : Option Error) → UnderWay input limit t h → IsSent h
      → h.turn ≡ turn.Over → h.engine.refusal ≡ o
      → AnswersOver o h.engine.dialogue answer → fault ≡ None
      → Concluded reader writer input limit t h.stream h.stream [] answer fault
  over_refused t h (Some e) answer fault u sent over is answers none = record {
    session = subst (LinkSession input limit new_tape t) (sym answers)
        (refused_by input limit t h e u sent.0 sent.1 over is);
    faults = ap error_list (sym none);
    trail = refl;
    io = λ io. absurd (refusal_so input limit t h e u over is (err_same (sym answers ∙ io)));
    failing = λ e same. absurd (let no = sym same ∙ none in cc);
  }
  over_refused t h None answer fault u sent over is answers none =
      let known = subst (λ (d : Option Dialogue). IsSomeAnd d (λ x. answer ≡ Ok (report_at x.notes))) u.is
      answers
      in
      record {
        session = subst (LinkSession input limit new_tape t) (sym known)
            (whole_by input limit t h u sent.0 sent.1 over is);
        faults = ap error_list (sym none);
        trail = refl;
        io = λ io. absurd (let no = sym known ∙ io in cc);
        failing = λ e same. absurd (let no = sym same ∙ none in cc);
      }

  at_end_of : (t : Tape) (h new : Mover S SessionEngine) (answer : Result SessionReport ClientError)
      (fault : Option Error) → UnderWay input limit t h → Step reader writer engine h Ended new
      → IsSomeAnd h.engine.dialogue (λ d. 0 < d.room)
      → AnswersAs h.engine stop.End answer fault → Concluded reader writer input limit t h.stream new.stream
      (Ended ∷ []) answer fault
  at_end_of t h new answer fault u step awaits answers =
      let d = step.1 in
      let means = subst (λ (o : Option Dialogue). IsSomeAnd o
      (λ x. Unless answers.0 (answers.0 ≡ notes_end x.notes))) u.is answers.3 in
      let room = subst (λ (o : Option Dialogue). IsSomeAnd o (λ x. 0 < x.room)) u.is awaits in
      let going = going_in input limit u.dialogue t.took (t.wrote ++ h.out) h.turn h.engine.refusal d.1 u.so in
      let stands = stands_in input limit u.dialogue t.took (t.wrote ++ h.out) state.Going going u.stands in
      record {
        session = subst (LinkSession input limit new_tape (with_call t Ended)) (sym answers.1)
            (ended_by input limit t h answers.0 u (d.0).0 (d.0).1 d.1 (omega (arith, stands.3, room)) means);
        faults = ap error_list (sym answers.4);
        trail = (new.stream, step.0, refl);
        io = λ io. absurd (not_io answers.0 answers.2 (err_same (sym answers.1 ∙ io)));
        failing = λ e same. absurd (let no = sym same ∙ answers.4 in cc);
      }

  broken_by : (t : Tape) (h new : Mover S SessionEngine) (call : Call) (e : Error) → fault_of call ≡ Some e
      → Step reader writer engine h call new → UnderWay input limit t h
      → LinkSession input limit new_tape (with_call t call) (Err client.IoError)
  broken_by t h new (Gave bytes) e is step u = cc
  broken_by t h new Ended e is step u = cc
  broken_by t h new (Wrote bytes) e is step u = cc
  broken_by t h new Flushed e is step u = cc
  broken_by t h new Waited e is step u = cc
  broken_by t h new (Unread x) e is step u =
      let d = step.1 in
      let w = waits input limit t h u d.1 (d.0).0 in
      faulted input limit t (with_call t (Unread x)) h u refl refl refl (omega arith) (omega arith)
      (unread refl (w.0, (u.dialogue).inbox, w.1)) ([], ap sent_of w.1 ∙ sym (append-nil t.wrote))
  broken_by t h new (Unwritten x) e is step u =
      let d = step.1 in
      let b = begun_on input limit t h u in
      let short : t.flushed < 0 + length (sent_of (conversation input t.took)) =
      omega (
        arith,
        flushed_in h.unflushed t u.flushing,
        ap length b.1,
        length-append t.wrote (h.out ++ b.0),
        length-append h.out b.0,
        d.0,
      ) in
      faulted input limit t (with_call t (Unwritten x)) h u refl refl refl (omega arith) (omega arith)
      (failed (unsent refl short)) (h.out ++ b.0, b.1)
  broken_by t h new (Unflushed x) e is step u =
      let d = step.1 in
      let b = begun_on input limit t h u in
      let less : t.flushed < length t.wrote = subst (λ f. Flushing f t) d.1 u.flushing in
      let short : t.flushed < 0 + length (sent_of (conversation input t.took)) =
      omega (arith, less, ap length b.1, length-append t.wrote (h.out ++ b.0)) in
      faulted input limit t t h u refl refl refl (omega arith) (omega arith) (failed (unsent refl short))
      (h.out ++ b.0, b.1)

  pub concluded : (why : Stop) (t : Tape) (mid new : Mover S SessionEngine) (last : List Call)
      (answer : Result SessionReport ClientError) (fault : Option Error) → UnderWay input limit t mid
      → Ends_by reader writer engine mid why last new
      → (new.turn ≡ turn.More → IsSomeAnd new.engine.dialogue (λ d. 0 < d.room))
      → AnswersAs new.engine why answer fault → Concluded reader writer input limit t mid.stream new.stream
      last
      answer fault
  concluded stop.Over t mid new last answer fault u stops awaits answers =
      let same = stops.0 in
      let c = over_refused t new new.engine.refusal answer fault (subst (UnderWay input limit t) same u)
      stops.2
      stops.3 refl answers.0 answers.1 in
      subst (λ (l : List Call). Concluded reader writer input limit t mid.stream new.stream l answer fault)
      (sym stops.1) (subst (λ (s : S). Concluded reader writer input limit t s new.stream [] answer fault)
      (sym (ap (λ (h : Mover S SessionEngine). h.stream) same)) c)
  concluded stop.End t mid new last answer fault u stops awaits answers =
      let step = stops.1 in
      let d = step.1 in
      let engine_is : new.engine ≡ mid.engine = ap (λ (h : Mover S SessionEngine). h.engine) d.2 in
      let turn_is : new.turn ≡ mid.turn = ap (λ (h : Mover S SessionEngine). h.turn) d.2 in
      let room = subst (λ (e : SessionEngine). IsSomeAnd e.dialogue (λ x. 0 < x.room)) engine_is
      (awaits (turn_is ∙ d.1)) in
      let c = at_end_of t mid new answer fault u step room
      (subst (λ (e : SessionEngine). AnswersAs e stop.End answer fault) engine_is answers) in
      subst (λ (l : List Call). Concluded reader writer input limit t mid.stream new.stream l answer fault)
      (sym stops.0) c
  concluded (stop.Fault e) t mid new last answer fault u stops awaits answers =
      let call = stops.0 in
      let c : Concluded reader writer input limit t mid.stream new.stream (call ∷ []) answer fault =
      record {
        session = subst (LinkSession input limit new_tape (with_call t call)) (sym answers.0)
            (broken_by t mid new call e stops.2 stops.3 u);
        faults = ap (λ o. error_list o ++ []) stops.2 ∙ ap error_list (sym answers.1);
        trail = (new.stream, (stops.3).0, refl);
        io = λ io. (e, answers.1);
        failing = λ x same. answers.0;
      } in
      subst (λ (l : List Call). Concluded reader writer input limit t mid.stream new.stream l answer fault)
      (sym stops.1) c
