-- What a login over a stream comes to.
use Rattle.std.proofs.Common.{◌≡◌, ℕ, List, [], length, Option, Some, None, Result, Ok, Err, false, refl, ◌∙◌, ap, sym, subst}
use Rattle.std.specs.Prelude.{IsSomeAnd}
use Rattle.std.specs.Global.{Global}
use Rattle.std.specs.declared.boxed.Box.{Box}
use Rattle.std.specs.declared.io.Error.{Error}
use Rattle.tokio.specs.declared.io.async_read.AsyncRead as AsyncRead
use Rattle.tokio.specs.declared.io.async_write.AsyncWrite as AsyncWrite
use Rattle.pgw_backend.specs.declared.client_error.PgWireClientError.{PgWireClientError as ClientError}
use Rattle.pgw_backend.specs.declared.client_error.PgWireClientError.TheVariants as client
use Rattle.pgw_link.specs.Tape.{Tape, new_tape}
use Rattle.pgw_session.specs.declared.types.Request.{Request}
use Rattle.pgw_session.specs.Input.{Input}
use Rattle.pgw_tokio_moving.specs.Calls.{Call, Ended, Trail}
use Rattle.pgw_tokio_moving.specs.Future.{CameTo, BoxCameTo, moved_of}
use Rattle.pgw_tokio_moving.specs.Moving.{Mover, held_in, Stops as Ends_by}
use Rattle.pgw_tokio_moving.specs.declared.exchange.Exchange.{Exchange}
use Rattle.pgw_tokio_moving.specs.declared.exchange.Stop.{Stop}
use Rattle.pgw_tokio_moving.specs.declared.exchange.Stop.TheVariants as stop
use Rattle.pgw_tokio_moving.specs.declared.moving.BoxedMoved.{BoxedMoved}
use Rattle.pgw_tokio_moving.specs.declared.moving.Moved.{Moved}
use Rattle.pgw_client_push.specs.declared.client.PushClient.{PushClient}
use Rattle.pgw_client_push.specs.Standing.{IsIdle, StandsFor}
use Rattle.pgw_client_push.specs.Told.{asked_of}
use Rattle.pgw_tokio.specs.declared.calling.ClientEngine.{ClientEngine}
use Rattle.pgw_tokio.specs.declared.client.AsyncClient.{AsyncClient}
use Rattle.pgw_tokio.specs.declared.login.LoggingIn.{LoggingIn}
use Rattle.pgw_tokio.specs.declared.login.NotLoggedIn.{NotLoggedIn}
use Rattle.pgw_tokio.specs.Calling.{LoginOver, client_members}
use Rattle.pgw_tokio.specs.Client.{fault_in, push_in, stream_in}
use Rattle.pgw_tokio.specs.Failing.{Fails}
use Rattle.pgw_tokio.specs.Faults.{fault_after}
use Rattle.pgw_tokio.specs.Login.{EndsLogin, FailsToLogIn, GivesLogin, IsAboutToLogIn, LogsInOverStream, LoginOutcome, stream_of}
use Rattle.pgw_tokio.specs.Tape.{stream_errors, error_list, with_call, tape_after, stream_tape}
use Rattle.pgw_tokio.proofs.CallLaws.{Paced, UnderCall, fails_same, flushed_at, over_ended, over_fault, over_refused, paced_runs, runs_under, sent_all}
use Rattle.pgw_tokio.proofs.StreamLaws.{calls_faults, calls_of, calls_trail, end_engine, tape_append}
use Rattle.pgw_tokio.proofs.UnderLaws.{Flushing}

-- ---- before the first call of the stream

module _ {S : Type 0} (input : Input) (limit : ℕ) (first : S) (h : Mover S ClientEngine)
    (a : IsAboutToLogIn input limit first h) where
  paced_first : Paced (asked_of h.engine.client) new_tape h
  paced_first = record {
    not_ended = refl;
    flushing = subst (λ b. Flushing b new_tape) (sym a.still) refl;
    broken = λ e is. let no = sym a.refusal ∙ is in cc;
    more = λ is. a.refusal;
    asked_is = λ is. refl;
  }

  under_first : UnderCall input limit [] [] new_tape h
  under_first = record {
    stands = a.stands;
    answers = λ e is. let no = sym a.refusal ∙ is in cc;
    has = λ over none. let no = sym over ∙ a.more in cc;
  }

-- ---- behind the last

err_same : {T : Type 0} {a b : ClientError} → ◌≡◌ {A = Result T ClientError} (Err a) (Err b) → a ≡ b
err_same is = cc

ok_same : {a b : PushClient} → ◌≡◌ {A = Result PushClient ClientError} (Ok a) (Ok b) → a ≡ b
ok_same is = cc

-- how it is answered where the engine is over
abbrev EndsOver : {S : Type 0} → S → PushClient → Option ClientError → Result (AsyncClient S) (NotLoggedIn S)
    → Type 0
EndsOver stream c o (Ok a) = (stream_in a ≡ stream) × (fault_in a ≡ None) × LoginOver c o (Ok (push_in a))
EndsOver stream c o (Err n) = (n.stream ≡ stream) × (n.fault ≡ None) × LoginOver c o (Err n.error)

ends_over : {S : Type 0} (stream : S) (e : ClientEngine) (result : Result (AsyncClient S) (NotLoggedIn S))
    → EndsLogin stream e stop.Over result → EndsOver stream e.client e.refusal result
ends_over stream e (Ok a) ends = ends
ends_over stream e (Err n) ends = ends

stream_is : {S : Type 0} (stream : S) (e : ClientEngine) (why : Stop)
    (result : Result (AsyncClient S) (NotLoggedIn S))
    → EndsLogin stream e why result → stream_of result ≡ stream
stream_is stream e why (Ok a) ends = ends.0
stream_is stream e why (Err n) ends = ends.0

module _ {S : Type 0} (input : Input) (limit : ℕ) (calls : List Call) (asked : Option (List Request)) where
  abbrev Under : Tape → Mover S ClientEngine → Type 0
  Under t h = UnderCall input limit [] [] t h

  -- there is no client
  failing : (n : NotLoggedIn S) (t : Tape) (c : PushClient) (fault : Option Error) (e : ClientError)
      → stream_tape calls ≡ t → n.fault ≡ fault → stream_errors calls ≡ error_list fault
      → Fails input limit [] [] t c fault e → n.error ≡ e → FailsToLogIn input limit calls n
  failing n t c fault e tape kept faults fails is = record {
    faults = faults ∙ ap error_list (sym kept);
    push = c;
    fails = subst (λ x. Fails input limit [] [] (stream_tape calls) c n.fault x) (sym is)
        (fails_same input limit [] [] t (stream_tape calls) c c fault n.fault e (sym tape) refl (sym kept) fails);
  }

  over_at : (t : Tape) (h : Mover S ClientEngine) (o : Option ClientError) → h.engine.refusal ≡ o
      → Paced asked t h → Under t h → h.out ≡ [] → h.unflushed ≡ false → stream_tape calls ≡ t
      → stream_errors calls ≡ [] → (stream : S) (result : Result (AsyncClient S) (NotLoggedIn S))
      → EndsOver stream h.engine.client o result → LoginOutcome input limit calls result
  over_at t h None refusal p u empty still tape calm stream (Ok c) ends =
      let same : push_in c ≡ h.engine.client = ok_same (ends.2).0 in
      record {
        usable = (subst IsIdle (sym same) (ends.2).1, ends.1);
        flushed = subst (λ (x : Tape). x.flushed ≡ length x.wrote) (sym tape)
            (flushed_at asked t h p still);
        unended = subst (λ (x : Tape). x.ended ≡ []) (sym tape) p.not_ended;
        calm = calm;
        stands = subst (λ (x : Tape). StandsFor input limit (push_in c) x.took x.wrote) (sym tape)
            (subst (λ (x : PushClient). StandsFor input limit x t.took t.wrote) (sym same)
            (sent_all input limit [] [] t h u empty));
      }
  over_at t h None refusal p u empty still tape calm stream (Err n) ends = cc
  over_at t h (Some e) refusal p u empty still tape calm stream (Ok c) ends = cc
  over_at t h (Some e) refusal p u empty still tape calm stream (Err n) ends =
      failing n t h.engine.client None e tape ends.1 calm
      (over_refused input limit [] [] t h e asked p u empty still refusal) (err_same ends.2)

  module _ (reader : AsyncRead.Ghosts S) (writer : AsyncWrite.Ghosts S) where
    outcome_at : (why : Stop) (mid last : Mover S ClientEngine) (t : Tape) (ends : List Call)
        → Ends_by reader writer client_members mid why ends last → Paced asked t mid → Under t mid
        → stream_tape calls ≡ tape_after t ends → stream_errors calls ≡ error_list (fault_after why None)
        → (stream : S)
        (result : Result (AsyncClient S) (NotLoggedIn S)) → EndsLogin stream mid.engine why result
        → LoginOutcome input limit calls result
    outcome_at stop.Over mid last t ends stops p u tape faults stream result r =
        let sent =
        subst (λ (h : Mover S ClientEngine). (h.out ≡ []) × (h.unflushed ≡ false)) (sym stops.0) stops.2 in
        over_at t mid mid.engine.refusal refl p u sent.0 sent.1 (tape ∙ ap (tape_after t) stops.1) faults stream
        result (ends_over stream mid.engine result r)
    outcome_at stop.End mid last t ends stops p u tape faults stream (Ok c) r =
        absurd (let no = (r.2).1 in cc)
    outcome_at stop.End mid last t ends stops p u tape faults stream (Err n) r =
        let sent = ((stops.1).1).0 in
        let w = r.2 in
        failing n (with_call t Ended) mid.engine.client None w.0 (tape ∙ ap (tape_after t) stops.0) r.1 faults
        (over_ended input limit [] [] t mid w.0 asked p u sent.0 sent.1 w.3) (err_same w.1)
    outcome_at (stop.Fault f) mid last t ends stops p u tape faults stream (Ok c) r = absurd (let no = r.2 in cc)
    outcome_at (stop.Fault f) mid last t ends stops p u tape faults stream (Err n) r =
        failing n (with_call t stops.0) mid.engine.client (Some f) client.IoError (tape
        ∙ ap (tape_after t) stops.1) r.1
        faults (over_fault input limit [] [] t mid stops.0 f stops.2 p.not_ended u) (err_same r.2)

-- ---- all of it

module _ {S : Type 0} (reader : AsyncRead.Ghosts S) (writer : AsyncWrite.Ghosts S) where
  logs_at : (input : Input) (limit : ℕ) (first : S) (h : Mover S ClientEngine) (moved : Moved S ClientEngine)
      (result : Result (AsyncClient S) (NotLoggedIn S)) → IsAboutToLogIn input limit first h
      → CameTo reader writer client_members h moved → EndsLogin moved.stream moved.engine moved.stop result
      → LogsInOverStream reader writer input limit first result
  logs_at input limit first h moved result a came ends =
      let ran = came.ran in
      let made = calls_of reader writer client_members h moved came in
      let engine_is : moved.engine ≡ (ran.mid).engine = came.engine_is
      ∙ end_engine reader writer client_members moved.stop ran.mid came.last ran.last ran.stops in
      let ends_mid = subst (λ (e : ClientEngine). EndsLogin moved.stream e moved.stop result) engine_is ends in
      record {
        calls = made;
        trail = subst (λ s. Trail reader writer s made (stream_of result)) a.here
            (calls_trail reader writer client_members h moved came (stream_of result)
            (stream_is moved.stream moved.engine moved.stop result ends));
        outcome = outcome_at input limit made (asked_of h.engine.client) reader writer moved.stop ran.mid
            came.last (stream_tape ran.calls) ran.last ran.stops
            (paced_runs (asked_of h.engine.client) reader writer new_tape h ran.mid ran.calls ran.runs
            (paced_first input limit first h a))
            (runs_under reader writer input limit [] [] new_tape h ran.mid
            ran.calls ran.runs (under_first input limit first h a))
            (tape_append new_tape ran.calls ran.last) (calls_faults reader writer client_members h moved came)
            moved.stream result ends_mid;
      }

  -- ---- the future

  logs_some : (o : Option (Box (Exchange S ClientEngine) Global)) (moved : BoxedMoved S ClientEngine)
      (result : Result (AsyncClient S) (NotLoggedIn S))
      → IsSomeAnd o (λ b. BoxCameTo reader writer client_members (held_in b.value) moved)
      → EndsLogin moved.exchange.value.stream moved.exchange.value.engine moved.stop result
      → (input : Input) (limit : ℕ) (first : S)
      → IsSomeAnd o (λ b. IsAboutToLogIn input limit first (held_in b.value))
      → LogsInOverStream reader writer input limit first result
  logs_some None moved result came ends input limit first about = absurd came
  logs_some (Some b) moved result came ends input limit first about =
      logs_at input limit first (held_in b.value) (moved_of moved) result about came.came ends

  pub gives_by : (f : LoggingIn S) (moved : BoxedMoved S ClientEngine)
      (result : Result (AsyncClient S) (NotLoggedIn S))
      → IsSomeAnd f.moving.state (λ b. BoxCameTo reader writer client_members (held_in b.value) moved)
      → EndsLogin moved.exchange.value.stream moved.exchange.value.engine moved.stop result
      → GivesLogin reader writer f result
  gives_by f moved result came ends = record {
    moved = moved;
    came = came;
    ends = ends;
    logs = logs_some f.moving.state moved result came ends;
  }
