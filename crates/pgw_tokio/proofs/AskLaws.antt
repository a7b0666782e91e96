-- What a request over a stream comes to.
use Rattle.std.proofs.Common.{◌≡◌, ℕ, List, [], ◌∷◌, ◌++◌, length, Option, Some, None, Result, Ok, Err, Bool, true, false, inl, inr, refl, ◌∙◌, ap, sym, subst}
use Rattle.std.proofs.lemmas.List.{append-nil}
use Rattle.std.specs.Bool.{Decides}
use Rattle.std.specs.Prelude.{IfOk, IsSomeAnd}
use Rattle.std.specs.Global.{Global}
use Rattle.std.specs.declared.boxed.Box.{Box}
use Rattle.std.specs.declared.io.Error.{Error}
use Rattle.tokio.specs.declared.io.async_read.AsyncRead as AsyncRead
use Rattle.tokio.specs.declared.io.async_write.AsyncWrite as AsyncWrite
use Rattle.pgw_backend.specs.declared.client_error.PgWireClientError.{PgWireClientError as ClientError}
use Rattle.pgw_backend.specs.declared.client_error.PgWireClientError.TheVariants as client
use Rattle.pgw_dialogue.specs.Dialogue.{AnswersDialogue}
use Rattle.pgw_dialogue.specs.declared.phase.DialoguePhase.{DialoguePhase}
use Rattle.pgw_link.specs.Tape.{Tape, new_tape}
use Rattle.pgw_session.specs.declared.types.Answer.{Answer}
use Rattle.pgw_session.specs.declared.types.Request.{Request}
use Rattle.pgw_session.specs.Input.{Input}
use Rattle.pgw_tokio_moving.specs.Calls.{Call, Ended, Trail}
use Rattle.pgw_tokio_moving.specs.Future.{CameTo, BoxCameTo, moved_of}
use Rattle.pgw_tokio_moving.specs.Moving.{Mover, held_in, Stops as Ends_by}
use Rattle.pgw_tokio_moving.specs.declared.engine.Turn.TheVariants as turn
use Rattle.pgw_tokio_moving.specs.declared.exchange.Exchange.{Exchange}
use Rattle.pgw_tokio_moving.specs.declared.exchange.Stop.{Stop}
use Rattle.pgw_tokio_moving.specs.declared.exchange.Stop.TheVariants as stop
use Rattle.pgw_tokio_moving.specs.declared.moving.BoxedMoved.{BoxedMoved}
use Rattle.pgw_tokio_moving.specs.declared.moving.Moved.{Moved}
use Rattle.pgw_client_push.specs.declared.client.PushClient.{PushClient}
use Rattle.pgw_frontend.specs.Frontend.{encodings}
use Rattle.pgw_session.specs.Requests.{sends_of}
use Rattle.pgw_client_push.specs.Calls.{IsLastAnswer, IsLeft, PushNotAsked, PushesRequest, input_with_request}
use Rattle.pgw_client_push.specs.Standing.{IsIdle, StandsFor}
use Rattle.pgw_client_push.specs.Told.{asked_of}
use Rattle.pgw_tokio.specs.declared.asking.Answered.{Answered}
use Rattle.pgw_tokio.specs.declared.asking.Asking.{Asking}
use Rattle.pgw_tokio.specs.declared.calling.ClientEngine.{ClientEngine}
use Rattle.pgw_tokio.specs.declared.client.AsyncClient.{AsyncClient}
use Rattle.pgw_tokio.specs.Asking.{AsksOverStream, FailsToAnswer, GivesAnswered, GivesAnswer, IsAboutToAsk, IsAskingBroken, IsUnasked, AskingOutcome, Stays}
use Rattle.pgw_tokio.specs.Calling.{AsksClient, ClientStands, ClientStandsBehind, HandsOut, RequestAnswers, RequestOver, client_members}
use Rattle.pgw_tokio.specs.Client.{IsUsable, AsyncStands, fault_in, push_in, stream_in}
use Rattle.pgw_tokio.specs.Failing.{Fails}
use Rattle.pgw_tokio.specs.Faults.{fault_after}
use Rattle.pgw_tokio.specs.First.{refusal_of, turn_of}
use Rattle.pgw_tokio.specs.Tape.{stream_errors, error_list, with_call, tape_after, stream_tape}
use Rattle.pgw_tokio.proofs.CallLaws.{Paced, UnderCall, answers_by, broken_by, broken_not_idle, fails_same, fault_runs, flushed_at, has_by, more_by, open_not_idle, over_ended, over_fault, over_refused, paced_runs, runs_under, sent_all}
use Rattle.pgw_tokio.proofs.IdleLaws.{Idle, idle_runs, idle_stops}
use Rattle.pgw_tokio.proofs.StreamLaws.{calls_faults, calls_of, calls_trail, end_engine, tape_append}
use Rattle.pgw_tokio.proofs.UnderLaws.{Flushing}

-- ---- before the first call of the stream

asked_by : (asked : Option (List Request)) (qs : List Request) (r : Result DialoguePhase ClientError)
    (refusal : Option ClientError) → refusal ≡ refusal_of r → IfOk r (λ p. asked ≡ Some qs) → refusal ≡ None
    → asked ≡ Some qs
asked_by asked qs (Ok p) refusal refused is none = is
asked_by asked qs (Err e) refusal refused is none = let no = sym none ∙ refused in cc

module _ {S : Type 0} (old : AsyncClient S) (q : Request) (h : Mover S ClientEngine)
    (a : AsksClient (push_in old) h.engine.client q h.engine.refusal h.turn h.out) where
  paced_first : h.unflushed ≡ false → IsLeft h.engine.client a.answer → Paced (Some (q ∷ [])) new_tape h
  paced_first still left = record {
    not_ended = refl;
    flushing = subst (λ b. Flushing b new_tape) (sym still) refl;
    broken = broken_by h.engine.client a.answer h.engine.refusal a.refused left;
    more = more_by a.answer h.turn h.engine.refusal a.turned a.refused;
    asked_is = asked_by (asked_of h.engine.client) (q ∷ []) a.answer h.engine.refusal a.refused a.asked;
  }

  under_first : PushesRequest (push_in old) h.engine.client q [] h.out a.answer → (input : Input) (limit : ℕ)
      (given put : List ℕ) → AsyncStands input limit old given put
      → UnderCall (input_with_request input q) limit given put new_tape h
  under_first o input limit given put stands =
      let c = h.engine.client in
      let all = input_with_request input q in
      let out_is : put ++ (o.opening ++ o.out) ≡ put ++ h.out = ap (λ (l : List ℕ). put ++ l) (sym o.puts) in
      let given_is : given ≡ given ++ [] = sym (append-nil given) in
      let answers = subst (λ (g : List ℕ). AnswersDialogue all limit g (put ++ h.out) a.answer) given_is
      (subst (λ (l : List ℕ). AnswersDialogue all limit given l a.answer) out_is
      (o.answers input limit given put stands))
      in
      record {
        stands = subst (λ (g : List ℕ). StandsFor all limit c g (put ++ h.out)) given_is
            (subst (StandsFor all limit c given) out_is (o.stands input limit given put stands));
        answers = answers_by all limit (given ++ []) (put ++ h.out) a.answer h.engine.refusal a.refused answers;
        has = has_by c a.answer h.turn h.engine.refusal a.turned a.refused a.has;
      }

-- ---- behind the last

module _ {S : Type 0} (old new : AsyncClient S) (q : Request) (was : IsUsable old)
    (spelled : (opening : List ℕ) × (encodings (sends_of q) ≡ Ok opening)) (calls : List Call)
    (result : Result Answer ClientError) where
  -- the client stands for all that it stood for, with what was given and written since
  abbrev Under : Tape → Mover S ClientEngine → Type 0
  Under t h = (input : Input) (limit : ℕ) (given put : List ℕ) → AsyncStands input limit old given put
      → UnderCall (input_with_request input q) limit given put t h

  failing : (t : Tape) (c : PushClient) (fault : Option Error) (e : ClientError) → stream_tape calls ≡ t
      → push_in new ≡ c → fault_in new ≡ fault → stream_errors calls ≡ error_list fault
      → ((input : Input) (limit : ℕ) (given put : List ℕ) → AsyncStands input limit old given put → IsUsable new →
      ⊥)
      → ((input : Input) (limit : ℕ) (given put : List ℕ) → AsyncStands input limit old given put
      → Fails (input_with_request input q) limit given put t c fault e)
      → result ≡ Err e → AskingOutcome old q calls new result
  failing t c fault e tape push kept faults broken fails is =
      let f : FailsToAnswer old q calls new e = record {
        was = was;
        spelled = spelled;
        faults = faults ∙ ap error_list (sym kept);
        broken = broken;
        fails =
            λ input limit given put stands. fails_same (input_with_request input q) limit given put t
            (stream_tape calls)
            c (push_in new) fault (fault_in new) e (sym tape) (sym push) (sym kept)
            (fails input limit given put stands);
      } in
      subst (AskingOutcome old q calls new) (sym is) (inr (inr f))

  over_done : (t : Tape) (h : Mover S ClientEngine) (r : Result Answer ClientError) → result ≡ r
      → h.engine.refusal ≡ None → h.turn ≡ turn.Over → Paced (Some (q ∷ [])) t h → Under t h → h.out ≡ []
      → h.unflushed ≡ false → stream_tape calls ≡ t → stream_errors calls ≡ [] → fault_in new ≡ None
      → HandsOut h.engine.client (push_in new) r → AskingOutcome old q calls new result
  over_done t h (Ok answer) is refusal over p u empty still tape calm kept hands =
      let sent : (input : Input) (limit : ℕ) (given put : List ℕ) → AsyncStands input limit old given put
      → StandsFor (input_with_request input q) limit h.engine.client (given ++ t.took) (put ++ t.wrote) =
      λ input limit given put stands. sent_all (input_with_request input q) limit given put t h
      (u input limit given put stands) empty in
      let g : GivesAnswer old q calls new answer = record {
        was = was;
        usable = (hands.idle, kept);
        flushed = subst (λ (x : Tape). x.flushed ≡ length x.wrote) (sym tape)
            (flushed_at (Some (q ∷ [])) t h p still);
        unended = subst (λ (x : Tape). x.ended ≡ []) (sym tape) p.not_ended;
        calm = calm;
        stands =
            λ input limit given put stands. subst
            (λ (x : Tape). AsyncStands (input_with_request input q) limit new
            (given ++ x.took) (put ++ x.wrote)) (sym tape)
            (hands.stands (input_with_request input q) limit (given ++ t.took) (put ++ t.wrote)
            (sent input limit given put stands));
        last = λ input limit given put stands. subst (λ (x : Tape). IsLastAnswer (input_with_request input q)
            (given ++ x.took) (put ++ x.wrote) answer) (sym tape)
            (hands.last (input_with_request input q) limit (given ++ t.took) (put ++ t.wrote)
            (sent input limit given put stands));
      } in
      subst (AskingOutcome old q calls new) (sym is) g
  over_done t h (Err e) is refusal over p u empty still tape calm kept hands =
      let never : (input : Input) (limit : ℕ) (given put : List ℕ) → AsyncStands input limit old given put → ⊥ =
      λ input limit given put stands.
      let has = (u input limit given put stands).has over refusal q (p.asked_is refusal) in
      let no : Err e ≡ Ok has.0 = hands.is has.0 has.1 in cc in
      failing t (push_in new) None e tape refl kept calm
      (λ input limit given put stands. absurd (never input limit given put stands))
      (λ input limit given put stands. absurd (never input limit given put stands)) is

  over_at : (t : Tape) (h : Mover S ClientEngine) (o : Option ClientError) → h.engine.refusal ≡ o
      → h.turn ≡ turn.Over → Paced (Some (q ∷ [])) t h → Under t h → h.out ≡ [] → h.unflushed ≡ false
      → stream_tape calls ≡ t → stream_errors calls ≡ [] → fault_in new ≡ None
      → RequestOver h.engine.client o (push_in new) result → AskingOutcome old q calls new result
  over_at t h None refusal over p u empty still tape calm kept r =
      over_done t h result refl refusal over p u empty still tape calm kept r
  over_at t h (Some e) refusal over p u empty still tape calm kept r =
      failing t h.engine.client None e tape r.0 kept calm
      (λ input limit given put stands usable. broken_not_idle h.engine.client (p.broken e refusal)
      (subst IsIdle r.0 usable.0))
      (λ input limit given put stands. over_refused (input_with_request input q) limit given put t h
      e (Some (q ∷ [])) p (u input limit given put stands) empty still refusal) r.1

  module _ (reader : AsyncRead.Ghosts S) (writer : AsyncWrite.Ghosts S) where
    outcome_at : (why : Stop) (mid last : Mover S ClientEngine) (t : Tape) (ends : List Call)
        → Ends_by reader writer client_members mid why ends last → Paced (Some (q ∷ [])) t mid → Under t mid
        → stream_tape calls ≡ tape_after t ends → stream_errors calls ≡ error_list (fault_after why None)
        → fault_in new ≡ fault_after why None
        → RequestAnswers mid.engine.client mid.engine.refusal why (push_in new) result
        → AskingOutcome old q calls new result
    outcome_at stop.Over mid last t ends stops p u tape faults kept r =
        let sent =
        subst (λ (h : Mover S ClientEngine). (h.out ≡ []) × (h.unflushed ≡ false)) (sym stops.0) stops.2
        in
        let over = subst (λ (h : Mover S ClientEngine). h.turn ≡ turn.Over) (sym stops.0) stops.3 in
        over_at t mid mid.engine.refusal refl over p u sent.0 sent.1 (tape
        ∙ ap (tape_after t) stops.1) faults kept r
    outcome_at stop.End mid last t ends stops p u tape faults kept r =
        let sent = ((stops.1).1).0 in
        let c = mid.engine.client in
        let w = r.2 in
        failing (with_call t Ended) c None w.0 (tape ∙ ap (tape_after t) stops.0) r.0 kept faults
        (λ input limit given put stands usable. open_not_idle c r.1 (subst IsIdle r.0 usable.0))
        (λ input limit given put stands. over_ended (input_with_request input q) limit given put t mid
        w.0 (Some (q ∷ [])) p (u input limit given put stands) sent.0 sent.1 w.2) w.1
    outcome_at (stop.Fault f) mid last t ends stops p u tape faults kept r =
        failing (with_call t stops.0) mid.engine.client (Some f) client.IoError (tape
        ∙ ap (tape_after t) stops.1) r.0
        kept faults (λ input limit given put stands usable. let no = sym kept ∙ usable.1 in cc)
        (λ input limit given put stands. over_fault (input_with_request input q) limit given put t mid
        stops.0 f stops.2 p.not_ended (u input limit given put stands)) r.1

-- ---- all of it

module _ {S : Type 0} (reader : AsyncRead.Ghosts S) (writer : AsyncWrite.Ghosts S) (old : AsyncClient S)
    (q : Request) (h : Mover S ClientEngine) (moved : Moved S ClientEngine) (answered : Answered S)
    (came : CameTo reader writer client_members h moved) where
  abbrev made : List Call
  made = calls_of reader writer client_members h moved came

  -- nothing is asked
  staying : (e : ClientError) → h.unflushed ≡ false → h.turn ≡ turn.Over → h.out ≡ []
      → h.engine.client ≡ push_in old → h.engine.refusal ≡ Some e
      → RequestAnswers moved.engine.client moved.engine.refusal moved.stop (push_in answered.client)
      answered.answer → fault_in answered.client ≡ fault_after moved.stop (fault_in old)
      → Stays old q made answered.client × (answered.answer ≡ Err e)
  staying e still over empty push refusal answers kept =
      let ran = came.ran in
      let first : Idle h.engine h = record { engine_is = refl; over = over; empty = empty; still = still } in
      let r = idle_runs reader writer client_members h.engine new_tape h ran.mid ran.calls ran.runs first in
      let stops = idle_stops reader writer client_members h.engine moved.stop ran.mid came.last ran.last
      ran.stops r.0 in
      let engine_is : moved.engine ≡ h.engine =
      came.engine_is ∙ ap (λ (x : Mover S ClientEngine). x.engine) (sym stops.2) ∙ (r.0).engine_is in
      let over_by = subst (λ (x : ClientEngine). RequestAnswers x.client x.refusal stop.Over
      (push_in answered.client) answered.answer) engine_is
      (subst (λ (why : Stop). RequestAnswers moved.engine.client moved.engine.refusal why
      (push_in answered.client) answered.answer) stops.0 answers) in
      let done = subst (λ o. RequestOver h.engine.client o (push_in answered.client) answered.answer) refusal
      over_by in
      let none : stream_errors made ≡ [] = calls_faults reader writer client_members h moved came
      ∙ ap (λ (why : Stop). error_list (fault_after why None)) stops.0 in
      let tape : stream_tape made ≡ new_tape = tape_append new_tape ran.calls ran.last
      ∙ ap (tape_after (stream_tape ran.calls)) stops.1 ∙ r.1 in (
        record {
          tape = tape;
          calm = none;
          push = done.0 ∙ push;
          fault = kept ∙ ap (λ (why : Stop). fault_after why (fault_in old)) stops.0;
        },
        done.1,
      )

  asks_with : stream_in answered.client ≡ moved.stream → h.stream ≡ stream_in old
      → AskingOutcome old q made answered.client answered.answer → AsksOverStream reader writer old q answered
  asks_with stream here outcome = record {
    calls = made;
    trail = subst (λ s. Trail reader writer s made (stream_in answered.client)) here
        (calls_trail reader writer client_members h moved came (stream_in answered.client) stream);
    outcome = outcome;
  }

  went : IsUsable old → (a : AsksClient (push_in old) h.engine.client q h.engine.refusal h.turn h.out)
      → h.unflushed ≡ false → PushesRequest (push_in old) h.engine.client q [] h.out a.answer
      → IsLeft h.engine.client a.answer
      → RequestAnswers moved.engine.client moved.engine.refusal moved.stop (push_in answered.client)
      answered.answer → fault_in answered.client ≡ fault_after moved.stop (fault_in old)
      → AskingOutcome old q made answered.client answered.answer
  went was a still opens left answers kept =
      let ran = came.ran in
      let engine_is : moved.engine ≡ (ran.mid).engine = came.engine_is
      ∙ end_engine reader writer client_members moved.stop ran.mid came.last ran.last ran.stops in
      let answers_mid = subst (λ (x : ClientEngine). RequestAnswers x.client x.refusal moved.stop
      (push_in answered.client) answered.answer) engine_is answers in
      outcome_at old answered.client q was (opens.opening, opens.encoded) made answered.answer reader writer
      moved.stop ran.mid came.last
      (stream_tape ran.calls) ran.last ran.stops
      (paced_runs (Some (q ∷ [])) reader writer new_tape h ran.mid ran.calls ran.runs
      (paced_first old q h a still left))
      (λ input limit given put stands. runs_under reader writer
      (input_with_request input q) limit given put new_tape h ran.mid ran.calls ran.runs
      (under_first old q h a opens input limit given put stands))
      (tape_append new_tape ran.calls ran.last) (calls_faults reader writer client_members h moved came)
      (kept ∙ ap (fault_after moved.stop) was.1) answers_mid

  unasked : IsUsable old → (a : AsksClient (push_in old) h.engine.client q h.engine.refusal h.turn h.out)
      → (r : Result DialoguePhase ClientError) → a.answer ≡ r → h.unflushed ≡ false
      → PushNotAsked (push_in old) h.engine.client q [] h.out r
      → RequestAnswers moved.engine.client moved.engine.refusal moved.stop (push_in answered.client)
      answered.answer → fault_in answered.client ≡ fault_after moved.stop (fault_in old)
      → AskingOutcome old q made answered.client answered.answer
  unasked was a (Ok p) is still not answers kept = absurd not
  unasked was a (Err e) is still not answers kept =
      let s =
      staying e still (a.turned ∙ ap turn_of is) not.1 not.0 (a.refused ∙ ap refusal_of is) answers kept in
      let u : IsUnasked old q made answered.client e = record { was = was; stays = s.0; cause = not.2 } in
      subst (AskingOutcome old q made answered.client) (sym s.1) (inr (inl u))

  -- what is kept of an earlier call that failed
  fault_is : moved.engine.fault ≡ h.engine.fault
  fault_is =
      let ran = came.ran in
      ap (λ (e : ClientEngine). e.fault)
      (came.engine_is ∙ end_engine reader writer client_members moved.stop ran.mid came.last ran.last ran.stops)
      ∙ fault_runs reader writer h ran.mid ran.calls ran.runs

  asks_at : (is_usable : Bool) → Decides is_usable (IsUsable old) → IsAboutToAsk is_usable old q h
      → stream_in answered.client ≡ moved.stream
      → RequestAnswers moved.engine.client moved.engine.refusal moved.stop (push_in answered.client)
      answered.answer → fault_in answered.client ≡ fault_after moved.stop (fault_in old)
      → AsksOverStream reader writer old q answered
  asks_at true decides about stream answers kept =
      let a = about.2 in
      asks_with stream about.0 (elim a.asks [
        | inl not ↦ unasked (decides.0 refl) a a.answer refl about.1 not answers kept
        | inr o ↦ went (decides.0 refl) a about.1 o.0 o.1 answers kept
      ])
  asks_at false decides about stream answers kept =
      let b = about.2 in
      let s = staying client.Broken about.1 b.2 b.3 b.0 b.1 answers kept in
      let w : IsAskingBroken old q made answered.client client.Broken = record {
        was = λ usable. let no = decides.1 usable in cc;
        is = refl;
        stays = s.0;
      } in
      asks_with stream about.0 (subst (AskingOutcome old q made answered.client) (sym s.1) (inl w))

-- ---- the future

module _ {S : Type 0} (reader : AsyncRead.Ghosts S) (writer : AsyncWrite.Ghosts S) where
  behind_at : (why : Stop) (mid new : Mover S ClientEngine) (last : List Call)
      → Ends_by reader writer client_members mid why last new → ClientStands new.engine new.turn
      → ClientStandsBehind new.engine why
  behind_at stop.Over mid new last stops stands = subst (ClientStands new.engine) stops.3 stands
  behind_at stop.End mid new last stops stands =
      let d = (stops.1).1 in
      subst (ClientStands new.engine) (ap (λ (h : Mover S ClientEngine). h.turn) d.2 ∙ d.1) stands
  behind_at (stop.Fault e) mid new last stops stands = tt

  pub behind_some : (o : Option (Box (Exchange S ClientEngine) Global)) (moved : BoxedMoved S ClientEngine)
      → IsSomeAnd o (λ b. BoxCameTo reader writer client_members (held_in b.value) moved)
      → ClientStandsBehind moved.exchange.value.engine moved.stop
  behind_some None moved came = absurd came
  behind_some (Some b) moved came =
      let ran = came.came.ran in
      subst (λ (e : ClientEngine). ClientStandsBehind e moved.stop) (sym came.came.engine_is)
      (behind_at moved.stop ran.mid came.came.last ran.last ran.stops came.came.stands)

  asks_some : (o : Option (Box (Exchange S ClientEngine) Global)) (moved : BoxedMoved S ClientEngine)
      (answered : Answered S) (old : AsyncClient S) (q : Request) (is_usable : Bool)
      → IsSomeAnd o (λ b. BoxCameTo reader writer client_members (held_in b.value) moved)
      → Decides is_usable (IsUsable old) → IsSomeAnd o (λ b. IsAboutToAsk is_usable old q (held_in b.value))
      → IsSomeAnd o (λ b. b.value.engine.fault ≡ fault_in old)
      → stream_in answered.client ≡ moved.exchange.value.stream
      → RequestAnswers moved.exchange.value.engine.client moved.exchange.value.engine.refusal moved.stop
      (push_in answered.client) answered.answer
      → fault_in answered.client ≡ fault_after moved.stop moved.exchange.value.engine.fault
      → AsksOverStream reader writer old q answered
  asks_some None moved answered old q is_usable came decides about earlier stream answers kept = absurd came
  asks_some (Some b) moved answered old q is_usable came decides about earlier stream answers kept =
      let h = held_in b.value in
      asks_at reader writer old q h (moved_of moved) answered came.came is_usable decides about stream answers
      (kept ∙ ap (fault_after moved.stop)
      (fault_is reader writer old q h (moved_of moved) answered came.came ∙ earlier))

  pub gives_by : (f : Asking S) (moved : BoxedMoved S ClientEngine) (answered : Answered S)
      → IsSomeAnd f.moving.state (λ b. BoxCameTo reader writer client_members (held_in b.value) moved)
      → stream_in answered.client ≡ moved.exchange.value.stream
      → RequestAnswers moved.exchange.value.engine.client moved.exchange.value.engine.refusal moved.stop
      (push_in answered.client) answered.answer
      → fault_in answered.client ≡ fault_after moved.stop moved.exchange.value.engine.fault
      → GivesAnswered reader writer f answered
  gives_by f moved answered came stream answers kept = record {
    moved = moved;
    came = came;
    stream = stream;
    answers = answers;
    fault = kept;
    asks = λ old q is. asks_some f.moving.state moved answered old q is.is_usable came is.decides
        is.about is.fault stream answers kept;
  }
