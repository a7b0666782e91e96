-- What the future of a session gives.
use Rattle.std.proofs.Common.{◌≡◌, ◌⊎◌, ◌<◌, ℕ, zero, suc, List, [], ◌∷◌, ◌++◌, length, Option, Some, None, Result, Err, false, inl, inr, arith, refl, ◌∙◌, ap, sym, subst}
use Rattle.std.proofs.lemmas.List.{append-nil}
use Rattle.std.specs.Prelude.{codes, IfSome, IsErrOf, IsSomeAnd}
use Rattle.std.specs.declared.io.Error.{Error}
use Rattle.tokio.specs.declared.io.async_read.AsyncRead as AsyncRead
use Rattle.tokio.specs.declared.io.async_write.AsyncWrite as AsyncWrite
use Rattle.pgw_types.specs.Counts.{Rose}
use Rattle.pgw_backend.specs.declared.client_error.PgWireClientError.{PgWireClientError as ClientError}
use Rattle.pgw_backend.specs.declared.client_error.PgWireClientError.TheVariants as client
use Rattle.pgw_machine.specs.Course.{onto}
use Rattle.pgw_link.specs.Tape.{Tape, new_tape}
use Rattle.pgw_link.specs.Foresight.{TapeEnds, Foreseen}
use Rattle.pgw_session.specs.declared.types.SessionReport.{SessionReport}
use Rattle.pgw_session.specs.Demands.{refused_config}
use Rattle.pgw_session.specs.Input.{Input}
use Rattle.pgw_session.specs.Machine.{Unencoded, sending}
use Rattle.pgw_session.specs.Notes.{first_notes, notes_book}
use Rattle.pgw_session.specs.declared.stage.Stage.TheVariants.{Starting}
use Rattle.pgw_session.specs.Segments.{startup_message}
use Rattle.pgw_session.proofs.FaultLaws.{startup_error}
use Rattle.pgw_dialogue.specs.Demands.{IsInvalidConfig}
use Rattle.pgw_dialogue.specs.Dialogue.{StartCause, Stands}
use Rattle.pgw_dialogue.specs.Machine.{StartsRun}
use Rattle.pgw_dialogue.specs.declared.dialogue.Dialogue.{Dialogue}
use Rattle.pgw_dialogue.specs.declared.phase.State.TheVariants as state
use Rattle.pgw_dialogue.proofs.DemandLaws.{key_not_io, same_key}
use Rattle.pgw_dialogue.proofs.DialogueLaws.{stands_in}
use Rattle.pgw_client.specs.OverLink.{OverLink}
use Rattle.pgw_client.specs.Session.{Causes}
use Rattle.pgw_client.specs.SessionSteps.{LinkSession}
use Rattle.pgw_client.proofs.MachineTalkLaws.{unstarted}
use Rattle.pgw_client.proofs.RefusedLaws.{refused_causes, refused_lockstep, refused_paced}
use Rattle.pgw_client.proofs.SessionLaws.{causes, told, paced, lockstep, completed, reports}
use Rattle.pgw_tokio_moving.specs.Calls.{Call}
use Rattle.pgw_tokio_moving.specs.Calls.{Trail}
use Rattle.pgw_tokio_moving.specs.declared.engine.Engine as Engine
use Rattle.pgw_tokio_moving.specs.declared.engine.Turn.TheVariants as turn
use Rattle.pgw_tokio_moving.specs.declared.exchange.Stop.{Stop}
use Rattle.pgw_tokio_moving.specs.declared.exchange.Stop.TheVariants as stop
use Rattle.pgw_tokio_moving.specs.declared.moving.Moved.{Moved}
use Rattle.pgw_tokio_moving.specs.Moving.{Mover}
use Rattle.pgw_tokio_moving.specs.Future.{CameTo}
use Rattle.pgw_tokio.specs.declared.engine.SessionEngine.{SessionEngine}
use Rattle.pgw_tokio.specs.declared.holding.Ended.{Ended as TheEnded}
use Rattle.pgw_tokio.specs.Engine.{StandsAs, Waits}
use Rattle.pgw_tokio.specs.First.{first_turn, refused_at}
use Rattle.pgw_tokio.specs.Stream.{AnswersAs, AnswersOver, HasBegun, OverStream, TellsStream, WasRefused, span_of}
use Rattle.pgw_tokio.specs.Tape.{stream_errors, error_list, stream_tape}
use Rattle.pgw_tokio.proofs.IdleLaws.{Idle, idle_runs, idle_stops}
use Rattle.pgw_tokio.proofs.OverLaws.{concluded}
use Rattle.pgw_tokio.proofs.StreamLaws.{clean, faults_append, tape_append, trail_on}
use Rattle.pgw_tokio.proofs.UnderLaws.{Flushing, IsSessions, StandsSo, UnderWay, runs_on}

-- ---- the contract, of a session

module _ (input : Input) (limit : ℕ) (calls : List Call) (answer : Result SessionReport ClientError)
    (none : refused_config input.config ≡ None) (s : LinkSession input limit new_tape (stream_tape calls) answer)
  where
    key_is : (key : List ℕ) → answer ≡ Err (client.InvalidConfig key)
        → (refused_config input.config ≡ Some key) ⊎ (key ≡ codes "user")
    key_is key is =
        let c = subst (Causes input limit new_tape (stream_tape calls)) is (causes input limit _ _ answer none s)
        in
        elim c.4 [
          | inl named ↦ inl (named.0)
          | inr refused ↦ inr (startup_error input c.0 c.1 (client.InvalidConfig key) (refused.1).0)
        ]

    link_by : (was is : Option (List ℕ)) → (IsErrOf answer client.IoError → Rose 0 (length (stream_errors calls)))
        → (0 < length (stream_errors calls) → IsErrOf answer client.IoError)
        → OverLink input limit (TellsStream calls was is) (span_of calls was is) answer
    link_by was is rose fails = record {
      refused = rw none tt;
      demands = key_is;
      cause = record { later = omega arith; io = rose };
      failing = fails;
      completed = completed input limit _ _ answer s;
      causes = causes input limit _ _ answer none s;
      told = λ clear. told input limit _ _ answer s;
      paced = paced input limit _ _ answer s;
      lockstep = lockstep input limit _ _ answer s;
      flushed = λ clear. s.flushed;
      session = λ clear. s;
      foreseen = λ tells. tells.0;
      ends = λ tells. tells.1;
      reports = λ tells clear whole known segments completes calm.
          reports input limit _ _ was is answer whole segments s known tells.0 tells.1 completes
          (λ io. calm (rose io));
    }

link_of : (input : Input) (limit : ℕ) (calls : List Call) (answer : Result SessionReport ClientError)
    (fault : Option Error) → refused_config input.config ≡ None
    → LinkSession input limit new_tape (stream_tape calls) answer
    → stream_errors calls ≡ error_list fault → (IsErrOf answer client.IoError → (e : Error) × (fault ≡ Some e))
    → ((e : Error) → fault ≡ Some e → IsErrOf answer client.IoError) → (was is : Option (List ℕ))
    → OverLink input limit (TellsStream calls was is) (span_of calls was is) answer
link_of input limit calls answer None none s faults io failing was is =
    link_by input limit calls answer none s was is (λ err. absurd (let no = (io err).1 in cc))
    (λ some. absurd (omega (arith, some, ap length faults)))
link_of input limit calls answer (Some e) none s faults io failing was is =
    link_by input limit calls answer none s was is (λ err. omega (arith, ap length faults))
    (λ some. failing e refl)

-- ---- one that has begun

-- before its first call
begun_under : {S : Type 0} (input : Input) (limit : ℕ) (h : Mover S SessionEngine) → h.unflushed ≡ false
    → HasBegun input limit h.engine h.turn h.out → UnderWay input limit new_tape h
begun_under input limit h still b =
    let d = b.0 in
    let starts = b.2 in
    let stands : Stands input limit d [] h.out = subst (Stands input limit d []) (sym starts.2) starts.3 in
    record {
      dialogue = d;
      is = b.1;
      stands = stands;
      so = subst (λ o. StandsSo input limit h.turn o d [] h.out) (sym b.5)
          (subst (λ x. StandsSo input limit x (refused_at limit) d [] h.out) (sym b.6)
          (first limit refl d h.out stands starts.4));
      room = omega (arith, b.4);
      not_ended = refl;
      reads = omega arith;
      writes = omega arith;
      flushing = subst (λ f. Flushing f new_tape) (sym still) refl;
    }
  where
    first : (n : ℕ) → limit ≡ n → (d : Dialogue) (out : List ℕ) → Stands input limit d [] out
        → d.state ≡ state.Going
        → StandsSo input limit (first_turn n) (refused_at n) d [] out
    first zero is d out stands going =
        let s = stands_in input limit d [] out state.Going going stands in
        ((λ io. cc), inr (inr (refl, (s.0, d.inbox, s.1), sym is)))
    first (suc n) is d out stands going = (refl, going)

-- one that waits has room
some_room : (o : Option Dialogue) (room : ℕ) → IsSomeAnd o (Waits room) → IsSomeAnd o (λ d. 0 < d.room)
some_room None room waits = absurd waits
some_room (Some d) room waits = (waits.awaits).1

module _ {S : Type 0} (reader : AsyncRead.Ghosts S) (writer : AsyncWrite.Ghosts S)
    (engine : Engine.Ghosts SessionEngine)
    (are : IsSessions reader writer engine) (input : Input) (limit : ℕ) where
  room_of : (h : Mover S SessionEngine) → engine.stands h.engine h.turn → h.turn ≡ turn.More
      → IsSomeAnd h.engine.dialogue (λ d. 0 < d.room)
  room_of h stands more =
      let s : StandsAs h.engine turn.More = subst (StandsAs h.engine) more
      (are.stands h.engine h.turn stands) in
      some_room h.engine.dialogue h.engine.room s.1

  over_begun : (h : Mover S SessionEngine) (moved : Moved S SessionEngine) (ended : TheEnded S)
      → h.unflushed ≡ false
      → HasBegun input limit h.engine h.turn h.out → CameTo reader writer engine h moved
      → ended.stream ≡ moved.stream → AnswersAs moved.engine moved.stop ended.answer ended.fault
      → OverStream reader writer input limit h.stream ended
  over_begun h moved ended still b came stream answers =
      let ran = came.ran in
      let last = came.last in
      let t = stream_tape ran.calls in
      let u = runs_on reader writer engine are input limit new_tape h ran.mid ran.calls ran.runs
      (begun_under input limit h still b) in
      let answers_last =
      subst (λ (e : SessionEngine). AnswersAs e moved.stop ended.answer ended.fault) came.engine_is answers in
      let c = concluded reader writer engine input limit moved.stop t ran.mid last ran.last ended.answer
      ended.fault u
      ran.stops (room_of last came.stands) answers_last in
      let calls = ran.calls ++ ran.last in
      let session : LinkSession input limit new_tape (stream_tape calls) ended.answer =
      subst (λ (x : Tape). LinkSession input limit new_tape x ended.answer)
      (sym (tape_append new_tape ran.calls ran.last)) c.session in
      let faults : stream_errors calls ≡ error_list ended.fault =
      faults_append ran.calls ran.last
      ∙ ap (λ (l : List Error). l ++ stream_errors ran.last)
      (clean reader writer engine h ran.mid ran.calls ran.runs)
      ∙ c.faults in
      let there : Trail reader writer (ran.mid).stream ran.last ended.stream =
      subst (Trail reader writer (ran.mid).stream ran.last) (sym (stream ∙ came.stream)) c.trail in
      record {
        calls = calls;
        trail = trail_on reader writer engine h ran.mid ended.stream ran.calls ran.last ran.runs there;
        fault = faults;
        over = link_of input limit calls ended.answer ended.fault b.3 session faults c.io c.failing;
      }

-- ---- one that was refused

err_same : {a b : ClientError} → ◌≡◌ {A = Result SessionReport ClientError} (Err a) (Err b) → a ≡ b
err_same is = cc

-- it is not known what the startup message would be, or memory was wanting
started_by : (input : Input) (e : ClientError) → refused_config input.config ≡ None → StartCause input e
    → StartsRun input [] (Err e)
started_by input client.OutOfMemory none cause = (refl, λ not. absurd (not refl))
started_by input (client.InvalidConfig key) none cause = absurd (let no = sym cause ∙ none in cc)
started_by input (client.PgWireError why) none cause = (
  refl,
  λ not. (
    record { notes = first_notes input; outcome = Unencoded why },
    ap (λ o. onto [] (sending (first_notes input) (notes_book.opens (first_notes input)
        (startup_message input ∷ []) Starting) o)) cause.1,
    refl,
  ),
)
started_by input e none cause = absurd cause

-- a configuration that demands what this client can't do
refused_link : (input : Input) (limit now : ℕ) (t : Tape) (e : ClientError) (key : List ℕ)
    (was is : Option (List ℕ))
    → refused_config input.config ≡ Some key → IsInvalidConfig key e → now ≡ 0 → t ≡ new_tape
    → OverLink input limit (Foreseen was is new_tape t × TapeEnds is new_tape t)
    (record { old = new_tape; new = t; was = was; is = is; before = 0; now = now }) (Err e)
refused_link input limit now t e key was is known named calm same =
    subst (λ (x : Tape). OverLink input limit (Foreseen was is new_tape x × TapeEnds is new_tape x)
    (record { old = new_tape; new = x; was = was; is = is; before = 0; now = now }) (Err e)) (sym same)
    (record {
      refused = rw known (named, refl);
      demands = λ other asked. inl (same_key (refused_config input.config) e key other known named
          (err_same asked));
      cause = record { later = omega arith; io = λ io. absurd (key_not_io e key named (err_same io)) };
      failing = λ more. absurd (omega (arith, more, calm));
      completed = tt;
      causes = refused_causes input limit new_tape e key known named;
      told = λ none. absurd (let no = sym known ∙ none in cc);
      paced = refused_paced limit new_tape;
      lockstep = refused_lockstep input new_tape;
      flushed = λ none. absurd (let no = sym known ∙ none in cc);
      session = λ none. absurd (let no = sym known ∙ none in cc);
      foreseen = λ tells. tells.0;
      ends = λ tells. tells.1;
      reports = λ tells none whole front segments completes quiet. absurd (let no = sym known ∙ none in cc);
    })

unbegun_link : (input : Input) (limit : ℕ) (calls : List Call) (e : ClientError) (o : Option (List ℕ))
    → refused_config input.config ≡ o → StartCause input e → IfSome o (λ key. IsInvalidConfig key e)
    → stream_errors calls ≡ [] → stream_tape calls ≡ new_tape → (was is : Option (List ℕ))
    → OverLink input limit (TellsStream calls was is) (span_of calls was is) (Err e)
unbegun_link input limit calls e (Some key) known cause named calm same was is =
    refused_link input limit (length (stream_errors calls)) (stream_tape calls) e key was is known named
    (ap length calm)
    same
unbegun_link input limit calls e None known cause named calm same was is =
    let s : LinkSession input limit new_tape (stream_tape calls) (Err e) =
    subst (λ (x : Tape). LinkSession input limit new_tape x (Err e)) (sym same)
    (unstarted input limit new_tape [] e (started_by input e known cause)) in
    link_of input limit calls (Err e) None known s calm
    (λ io. absurd (subst (StartCause input) (err_same io) cause))
    (λ x no. cc) was is

module _ {S : Type 0} (reader : AsyncRead.Ghosts S) (writer : AsyncWrite.Ghosts S)
    (engine : Engine.Ghosts SessionEngine) (input : Input) (limit : ℕ) where
  over_unbegun : (h : Mover S SessionEngine) (moved : Moved S SessionEngine) (ended : TheEnded S)
      → h.unflushed ≡ false
      → WasRefused input limit h.engine h.turn h.out → CameTo reader writer engine h moved
      → ended.stream ≡ moved.stream → AnswersAs moved.engine moved.stop ended.answer ended.fault
      → OverStream reader writer input limit h.stream ended
  over_unbegun h moved ended still w came stream answers =
      let ran = came.ran in
      let e = w.0 in
      let first : Idle h.engine h = record { engine_is = refl; over = w.2; empty = w.3; still = still } in
      let r = idle_runs reader writer engine h.engine new_tape h ran.mid ran.calls ran.runs first in
      let stops = idle_stops reader writer engine h.engine moved.stop ran.mid came.last ran.last ran.stops
      r.0 in
      let engine_is : moved.engine ≡ h.engine =
      came.engine_is ∙ ap (λ (x : Mover S SessionEngine). x.engine) (sym stops.2) ∙ (r.0).engine_is in
      let over = subst (λ (x : SessionEngine). AnswersAs x stop.Over ended.answer ended.fault) engine_is
      (subst (λ (why : Stop). AnswersAs moved.engine why ended.answer ended.fault) stops.0 answers) in
      let answer : ended.answer ≡ Err e =
      subst (λ o. AnswersOver o h.engine.dialogue ended.answer) w.1 over.0 in
      let calls = ran.calls in
      let calm : stream_errors calls ≡ [] = clean reader writer engine h ran.mid calls ran.runs in
      let end : ended.stream ≡ (ran.mid).stream =
      stream ∙ came.stream ∙ ap (λ (x : Mover S SessionEngine). x.stream) (sym stops.2) in
      let trail = trail_on reader writer engine h ran.mid ended.stream calls [] ran.runs (sym end) in
      record {
        calls = calls ++ [];
        trail = trail;
        fault = ap stream_errors (append-nil calls) ∙ calm ∙ ap error_list (sym over.1);
        over = λ was is. subst (OverLink input limit (TellsStream (calls ++ []) was is)
            (span_of (calls ++ []) was is))
            (sym answer) (unbegun_link input limit (calls ++ []) e (refused_config input.config) refl w.4 w.5
            (ap stream_errors (append-nil calls) ∙ calm) (ap stream_tape (append-nil calls) ∙ r.1) was is);
      }

-- ---- whichever

pub over_stream : {S : Type 0} (reader : AsyncRead.Ghosts S) (writer : AsyncWrite.Ghosts S)
    (engine : Engine.Ghosts SessionEngine) → IsSessions reader writer engine → (input : Input) (limit : ℕ)
    (h : Mover S SessionEngine) (moved : Moved S SessionEngine) (ended : TheEnded S) (first : S)
    → h.stream ≡ first
    → h.unflushed ≡ false → HasBegun input limit h.engine h.turn h.out ⊎ WasRefused input limit h.engine
    h.turn
    h.out
    → CameTo reader writer engine h moved → ended.stream ≡ moved.stream
    → AnswersAs moved.engine moved.stop ended.answer ended.fault
    → OverStream reader writer input limit first ended
over_stream reader writer engine are input limit h moved ended first here still (inl b) came stream answers =
    subst (λ s. OverStream reader writer input limit s ended) here
    (over_begun reader writer engine are input limit h moved ended still b came stream answers)
over_stream reader writer engine are input limit h moved ended first here still (inr w) came stream answers =
    subst (λ s. OverStream reader writer input limit s ended) here
    (over_unbegun reader writer engine input limit h moved ended still w came stream answers)
