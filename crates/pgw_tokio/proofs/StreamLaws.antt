-- From the calls of an exchange to those of its stream, and to a tape.
use Rattle.std.proofs.Common.{◌≡◌, List, [], ◌∷◌, ◌++◌, None, Some, refl, ◌∙◌, ap, sym, subst, append_assoc}
use Rattle.std.specs.declared.io.Error.{Error}
use Rattle.tokio.specs.declared.io.async_read.AsyncRead as AsyncRead
use Rattle.tokio.specs.declared.io.async_write.AsyncWrite as AsyncWrite
use Rattle.pgw_link.specs.Tape.{Tape}
use Rattle.pgw_tokio_moving.specs.declared.engine.Engine as Engine
use Rattle.pgw_tokio_moving.specs.Calls.{Call, Gave, Ended, Wrote, Flushed, Waited, Unread, Unwritten, Unflushed, CallGoesOn, Trail, fault_of}
use Rattle.pgw_tokio_moving.specs.Future.{CameTo}
use Rattle.pgw_tokio_moving.specs.Moving.{Mover, MovesStreamBytes, Step, Stops as Ends_by}
use Rattle.pgw_tokio_moving.specs.declared.exchange.Stop.{Stop}
use Rattle.pgw_tokio_moving.specs.declared.exchange.Stop.TheVariants as stop
use Rattle.pgw_tokio_moving.specs.declared.moving.Moved.{Moved}
use Rattle.pgw_tokio.specs.Faults.{fault_after}
use Rattle.pgw_tokio.specs.Tape.{stream_errors, error_list, with_call, tape_after}

pub tape_append : (t : Tape) (first second : List Call)
    → tape_after t (first ++ second) ≡ tape_after (tape_after t first) second
tape_append t [] second = refl
tape_append t (call ∷ first) second = tape_append (with_call t call) first second

pub faults_append : (first second : List Call)
    → stream_errors (first ++ second) ≡ stream_errors first ++ stream_errors
    second
faults_append [] second = refl
faults_append (call ∷ first) second = ap (λ es. error_list (fault_of call) ++ es) (faults_append first second)
    ∙ sym (append_assoc (error_list (fault_of call)) (stream_errors first) (stream_errors second))

no_fault : (call : Call) → CallGoesOn call → fault_of call ≡ None
no_fault (Gave bytes) on = refl
no_fault Ended on = absurd on
no_fault (Wrote bytes) on = refl
no_fault Flushed on = refl
no_fault Waited on = refl
no_fault (Unread e) on = absurd on
no_fault (Unwritten e) on = absurd on
no_fault (Unflushed e) on = absurd on

module _ {S E : Type 0} (reader : AsyncRead.Ghosts S) (writer : AsyncWrite.Ghosts S)
    (engine : Engine.Ghosts E)
  where
    pub trail_on : (a b : Mover S E) (c : S) (calls more : List Call) → MovesStreamBytes reader writer engine a calls b
        → Trail reader writer b.stream more c → Trail reader writer a.stream (calls ++ more) c
    trail_on a b c [] more runs t = subst (λ (h : Mover S E). Trail reader writer h.stream more c) (sym runs) t
    trail_on a b c (call ∷ calls) more runs t = (
      (runs.0).stream,
      (runs.2).0,
      trail_on runs.0 b c calls more runs.3 t,
    )

    pub clean : (a b : Mover S E) (calls : List Call) → MovesStreamBytes reader writer engine a calls b
        → stream_errors calls ≡ []
    clean a b [] runs = refl
    clean a b (call ∷ calls) runs = ap (λ o. error_list o ++ stream_errors calls) (no_fault call runs.1)
        ∙ clean runs.0 b calls runs.3

    -- the last call, if there is one
    end_trail : (why : Stop) (mid new : Mover S E) (last : List Call) (c : S)
        → Ends_by reader writer engine mid why last new → c ≡ new.stream → Trail reader writer mid.stream last c
    end_trail stop.Over mid new last c stops is =
        subst (λ (l : List Call). Trail reader writer mid.stream l c) (sym stops.1)
        (ap (λ (h : Mover S E). h.stream) stops.0 ∙ sym is)
    end_trail stop.End mid new last c stops is =
        subst (λ (l : List Call). Trail reader writer mid.stream l c) (sym stops.0)
        (new.stream, (stops.1).0, sym is)
    end_trail (stop.Fault e) mid new last c stops is =
        subst (λ (l : List Call). Trail reader writer mid.stream l c) (sym stops.1)
        (new.stream, (stops.3).0, sym is)

    end_faults : (why : Stop) (mid new : Mover S E) (last : List Call)
        → Ends_by reader writer engine mid why last new
        → stream_errors last ≡ error_list (fault_after why None)
    end_faults stop.Over mid new last stops = ap stream_errors stops.1
    end_faults stop.End mid new last stops = ap stream_errors stops.0
    end_faults (stop.Fault e) mid new last stops =
        ap stream_errors stops.1 ∙ ap (λ o. error_list o ++ []) stops.2

    -- a call that failed leaves all but the stream
    fault_engine : (old new : Mover S E) (call : Call) (e : Error) → fault_of call ≡ Some e
        → Step reader writer engine old call new → new.engine ≡ old.engine
    fault_engine old new (Gave bytes) e is step = cc
    fault_engine old new Ended e is step = cc
    fault_engine old new (Wrote bytes) e is step = cc
    fault_engine old new Flushed e is step = cc
    fault_engine old new Waited e is step = cc
    fault_engine old new (Unread x) e is step = ap (λ (h : Mover S E). h.engine) (step.1).2
    fault_engine old new (Unwritten x) e is step = ap (λ (h : Mover S E). h.engine) (step.1).1
    fault_engine old new (Unflushed x) e is step = ap (λ (h : Mover S E). h.engine) (step.1).2

    -- so does the last call, if there is one
    pub end_engine : (why : Stop) (mid new : Mover S E) (last : List Call)
        → Ends_by reader writer engine mid why last new → new.engine ≡ mid.engine
    end_engine stop.Over mid new last stops = ap (λ (h : Mover S E). h.engine) (sym stops.0)
    end_engine stop.End mid new last stops = ap (λ (h : Mover S E). h.engine) ((stops.1).1).2
    end_engine (stop.Fault e) mid new last stops = fault_engine mid new stops.0 e stops.2 stops.3

    -- all the calls, with the last
    abbrev pub calls_of : (h : Mover S E) (moved : Moved S E) → CameTo reader writer engine h moved → List Call
    calls_of h moved came = came.ran.calls ++ came.ran.last

    pub calls_trail : (h : Mover S E) (moved : Moved S E) (came : CameTo reader writer engine h moved) (c : S)
        → c ≡ moved.stream → Trail reader writer h.stream (calls_of h moved came) c
    calls_trail h moved came c is =
        let ran = came.ran in
        trail_on h ran.mid c ran.calls ran.last ran.runs
        (end_trail moved.stop ran.mid came.last ran.last c ran.stops (is ∙ came.stream))

    pub calls_faults : (h : Mover S E) (moved : Moved S E) (came : CameTo reader writer engine h moved)
        → stream_errors (calls_of h moved came) ≡ error_list (fault_after moved.stop None)
    calls_faults h moved came =
        let ran = came.ran in
        faults_append ran.calls ran.last
        ∙ ap (λ (l : List Error). l ++ stream_errors ran.last) (clean h ran.mid ran.calls ran.runs)
        ∙ end_faults moved.stop ran.mid came.last ran.last ran.stops
