-- What bytes that are written over a stream come to.
use Rattle.std.proofs.Common.{◌≡◌, ℕ, List, [], ◌∷◌, ◌++◌, length, Option, Some, None, Result, false, arith, refl, ◌∙◌, ap, sym, subst, append_assoc, length-append}
use Rattle.std.proofs.lemmas.List.{append-nil}
use Rattle.std.specs.Prelude.{IsSomeAnd}
use Rattle.std.specs.declared.io.Error.{Error}
use Rattle.tokio.specs.declared.io.async_read.AsyncRead as AsyncRead
use Rattle.tokio.specs.declared.io.async_write.AsyncWrite as AsyncWrite
use Rattle.pgw_backend.specs.declared.client_error.PgWireClientError.{PgWireClientError as ClientError}
use Rattle.pgw_link.specs.Tape.{Tape, new_tape}
use Rattle.pgw_tokio_moving.specs.Calls.{Call, Gave, Ended, Wrote, Flushed, Waited, Unread, Unwritten, Unflushed, CallGoesOn, Trail}
use Rattle.pgw_tokio_moving.specs.Calls.{fault_of}
use Rattle.pgw_tokio_moving.specs.Future.{CameTo}
use Rattle.pgw_tokio_moving.specs.Moving.{Mover, held_in, MovesStreamBytes, Step, Stops as Ends_by}
use Rattle.pgw_tokio_moving.specs.declared.engine.Turn.TheVariants as turn
use Rattle.pgw_tokio_moving.specs.declared.exchange.Exchange.{Exchange}
use Rattle.pgw_tokio_moving.specs.declared.exchange.Stop.{Stop}
use Rattle.pgw_tokio_moving.specs.declared.exchange.Stop.TheVariants as stop
use Rattle.pgw_tokio_moving.specs.declared.moving.Moved.{Moved}
use Rattle.pgw_tokio.specs.declared.sending.Sending.{Sending}
use Rattle.pgw_tokio.specs.declared.sending.Sent.{Sent}
use Rattle.pgw_tokio.specs.declared.sending.Silent.{Silent}
use Rattle.pgw_tokio.specs.Faults.{fault_after}
use Rattle.pgw_tokio.specs.Sending.{EndsSending, GivesSent, IsAboutToSend, SendingOutcome, SendsOverStream, SentOver, silent_members}
use Rattle.pgw_tokio.specs.Tape.{error_list, with_call, tape_after, stream_tape}
use Rattle.pgw_tokio.proofs.StreamLaws.{calls_faults, calls_of, calls_trail, tape_append}
use Rattle.pgw_tokio.proofs.UnderLaws.{Flushing, flushed_in}

module _ {S : Type 0} (bytes : List ℕ) where
  -- what was written is the front of the bytes, and what is left is to be written; nothing was read
  pub record UnderSend (t : Tape) (h : Mover S Silent) : Type 0 where
    pub over : h.turn ≡ turn.Over
    pub puts : t.wrote ++ h.out ≡ bytes
    pub took : t.took ≡ []
    pub flushing : Flushing h.unflushed t

  module _ (reader : AsyncRead.Ghosts S) (writer : AsyncWrite.Ghosts S) where
    call_on : (t : Tape) (old new : Mover S Silent) (call : Call) → CallGoesOn call
        → Step reader writer silent_members old call new → UnderSend t old → UnderSend (with_call t call) new
    call_on t old new (Gave got) on step u = absurd (let no = sym (step.1).1 ∙ u.over in cc)
    call_on t old new Ended on step u = absurd on
    call_on t old new (Wrote front) on step u =
        let d = step.1 in
        subst (UnderSend (with_call t (Wrote front))) (sym d.1) (record {
          over = u.over;
          puts = append_assoc t.wrote front new.out ∙ ap (λ (l : List ℕ). t.wrote ++ l) (sym d.0) ∙ u.puts;
          took = u.took;
          flushing = omega (
            arith,
            flushed_in old.unflushed t u.flushing,
            length-append t.wrote front,
            (step.0).1,
          );
        })
    call_on t old new Flushed on step u =
        subst (UnderSend (with_call t Flushed)) (sym (step.1).2)
        (record { over = u.over; puts = u.puts; took = u.took; flushing = refl })
    call_on t old new Waited on step u =
        subst (UnderSend t) (sym step.1)
        (record { over = u.over; puts = u.puts; took = u.took; flushing = u.flushing })
    call_on t old new (Unread x) on step u = absurd on
    call_on t old new (Unwritten x) on step u = absurd on
    call_on t old new (Unflushed x) on step u = absurd on

    runs_on : (t : Tape) (old new : Mover S Silent) (calls : List Call)
        → MovesStreamBytes reader writer silent_members old calls new → UnderSend t old
        → UnderSend (tape_after t calls) new
    runs_on t old new [] runs u = subst (UnderSend t) runs u
    runs_on t old new (call ∷ calls) runs u =
        runs_on (with_call t call) runs.0 new calls runs.3 (call_on t old runs.0 call runs.1 runs.2 u)

    -- ---- the end

    -- a call that failed moved nothing
    fault_moves : (t : Tape) (call : Call) (f : Error) → fault_of call ≡ Some f
        → ((with_call t call).wrote ≡ t.wrote) × ((with_call t call).took ≡ t.took)
    fault_moves t (Gave got) f is = cc
    fault_moves t Ended f is = cc
    fault_moves t (Wrote front) f is = cc
    fault_moves t Flushed f is = cc
    fault_moves t Waited f is = cc
    fault_moves t (Unread x) f is = (refl, refl)
    fault_moves t (Unwritten x) f is = (refl, refl)
    fault_moves t (Unflushed x) f is = (refl, refl)

    over_by : (calls : List Call) (t : Tape) (h : Mover S Silent) (fault : Option Error) (o : Option ClientError)
        (r : Result (Unit {0}) ClientError) → UnderSend t h → h.out ≡ [] → h.unflushed ≡ false
        → stream_tape calls ≡ t
        → fault ≡ None → SentOver o r → SendingOutcome bytes o calls fault r
    over_by calls t h fault None r u empty still tape calm is =
        let wrote : (stream_tape calls).wrote ≡ bytes = ap (λ (x : Tape). x.wrote) tape ∙ sym (append-nil t.wrote)
        ∙ ap (λ (l : List ℕ). t.wrote ++ l) (sym empty) ∙ u.puts in
        subst (SendingOutcome bytes None calls fault) (sym is) (
          refl,
          calm,
          wrote,
          subst (λ (x : Tape). x.flushed ≡ length x.wrote) (sym tape)
              (subst (λ b. Flushing b t) still u.flushing),
        )
    over_by calls t h fault (Some e) r u empty still tape calm is =
        let wrote : (stream_tape calls).wrote ≡ bytes = ap (λ (x : Tape). x.wrote) tape ∙ sym (append-nil t.wrote)
        ∙ ap (λ (l : List ℕ). t.wrote ++ l) (sym empty) ∙ u.puts in
        subst (λ (f : Option Error). SendingOutcome bytes (Some e) calls f r) (sym calm)
        (subst (SendingOutcome bytes (Some e) calls None) (sym is) (refl, wrote))

    outcome_at : (why : Stop) (mid last : Mover S Silent) (t : Tape) (ends : List Call) (calls : List Call)
        (refusal : Option ClientError) (stream : S) (sent : Sent S)
        → Ends_by reader writer silent_members mid why ends last → UnderSend t mid
        → stream_tape calls ≡ tape_after t ends → EndsSending stream why refusal sent
        → ((stream_tape calls).took ≡ []) × SendingOutcome bytes refusal calls sent.fault sent.result
    outcome_at stop.Over mid last t ends calls refusal stream sent stops u tape r =
        let at : stream_tape calls ≡ t = tape ∙ ap (tape_after t) stops.1 in
        let whole =
        subst (λ (h : Mover S Silent). (h.out ≡ []) × (h.unflushed ≡ false)) (sym stops.0) stops.2 in (
          ap (λ (x : Tape). x.took) at ∙ u.took,
          over_by calls t mid sent.fault refusal sent.result u whole.0 whole.1 at r.1 r.2,
        )
    outcome_at stop.End mid last t ends calls refusal stream sent stops u tape r =
        absurd (let no = sym ((stops.1).1).1 ∙ u.over in cc)
    outcome_at (stop.Fault f) mid last t ends calls refusal stream sent stops u tape r =
        let at : stream_tape calls ≡ with_call t stops.0 = tape ∙ ap (tape_after t) stops.1 in
        let same = fault_moves t stops.0 f stops.2 in
        let wrote : (stream_tape calls).wrote ≡ t.wrote = ap (λ (x : Tape). x.wrote) at ∙ same.0 in (
          ap (λ (x : Tape). x.took) at ∙ same.1 ∙ u.took,
          subst (λ (o : Option Error). SendingOutcome bytes refusal calls o sent.result) (sym r.1)
              (subst (SendingOutcome bytes refusal calls (Some f)) (sym r.2)
              (refl, (mid.out, sym u.puts ∙ ap (λ (l : List ℕ). l ++ mid.out) (sym wrote)))),
        )

-- ---- all of it

module _ {S : Type 0} (reader : AsyncRead.Ghosts S) (writer : AsyncWrite.Ghosts S) where
  -- the error that is kept is that of the call that failed
  fault_is : (stream : S) (why : Stop) (refusal : Option ClientError) (sent : Sent S)
      → EndsSending stream why refusal sent → (sent.fault ≡ fault_after why None) × (sent.stream ≡ stream)
  fault_is stream stop.Over refusal sent r = (r.1, r.0)
  fault_is stream stop.End refusal sent r = (r.1, r.0)
  fault_is stream (stop.Fault f) refusal sent r = (r.1, r.0)

  sends_at : (stream : S) (bytes : List ℕ) (refusal : Option ClientError) (h : Mover S Silent)
      (moved : Moved S Silent) (sent : Sent S) → IsAboutToSend stream bytes h
      → CameTo reader writer silent_members h moved → EndsSending moved.stream moved.stop refusal sent
      → SendsOverStream reader writer stream bytes refusal sent
  sends_at stream bytes refusal h moved sent a came ends =
      let ran = came.ran in
      let made = calls_of reader writer silent_members h moved came in
      let kept = fault_is moved.stream moved.stop refusal sent ends in
      let first : UnderSend bytes new_tape h = record {
        over = a.over;
        puts = a.puts;
        took = refl;
        flushing = subst (λ b. Flushing b new_tape) (sym a.still) refl;
      } in
      let o =
      outcome_at bytes reader writer moved.stop ran.mid came.last (stream_tape ran.calls) ran.last made
      refusal
      moved.stream sent ran.stops
      (runs_on bytes reader writer new_tape h ran.mid ran.calls ran.runs first)
      (tape_append new_tape ran.calls ran.last) ends in
      record {
        calls = made;
        trail = subst (λ s. Trail reader writer s made sent.stream) a.here
            (calls_trail reader writer silent_members h moved came sent.stream kept.1);
        faults = calls_faults reader writer silent_members h moved came ∙ ap error_list (sym kept.0);
        took = o.0;
        outcome = o.1;
      }

  sends_some : (o : Option (Exchange S Silent)) (moved : Moved S Silent) (sent : Sent S)
      (earlier refusal : Option ClientError)
      → IsSomeAnd o (λ x. CameTo reader writer silent_members (held_in x) moved)
      → EndsSending moved.stream moved.stop earlier sent → (stream : S) (bytes : List ℕ) → earlier ≡ refusal
      → IsSomeAnd o (λ x. IsAboutToSend stream bytes (held_in x))
      → SendsOverStream reader writer stream bytes refusal sent
  sends_some None moved sent earlier refusal came ends stream bytes same about = absurd came
  sends_some (Some x) moved sent earlier refusal came ends stream bytes same about =
      sends_at stream bytes refusal (held_in x) moved sent about came
      (subst (λ r. EndsSending moved.stream moved.stop r sent) same ends)

  pub gives_by : (f : Sending S) (moved : Moved S Silent) (sent : Sent S)
      → IsSomeAnd f.moving.state (λ x. CameTo reader writer silent_members (held_in x) moved)
      → EndsSending moved.stream moved.stop f.refusal sent → GivesSent reader writer f sent
  gives_by f moved sent came ends = record {
    moved = moved;
    came = came;
    ends = ends;
    sends =
        λ stream bytes refusal is. sends_some f.moving.state moved sent f.refusal refusal came ends stream bytes
        is.0 is.1;
  }
