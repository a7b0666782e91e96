-- An exchange that has nothing to write and asks for no more.
use Rattle.std.proofs.Common.{◌≡◌, List, [], ◌∷◌, length, Some, false, arith, refl, ◌∙◌, ap, sym, subst, length-append}
use Rattle.std.specs.declared.io.Error.{Error}
use Rattle.tokio.specs.declared.io.async_read.AsyncRead as AsyncRead
use Rattle.tokio.specs.declared.io.async_write.AsyncWrite as AsyncWrite
use Rattle.pgw_link.specs.Tape.{Tape}
use Rattle.pgw_tokio_moving.specs.Calls.{Call, Gave, Ended, Wrote, Flushed, Waited, Unread, Unwritten, Unflushed, CallGoesOn}
use Rattle.pgw_tokio_moving.specs.Calls.{fault_of}
use Rattle.pgw_tokio_moving.specs.declared.engine.Engine as Engine
use Rattle.pgw_tokio_moving.specs.declared.engine.Turn.TheVariants as turn
use Rattle.pgw_tokio_moving.specs.declared.exchange.Stop.{Stop}
use Rattle.pgw_tokio_moving.specs.declared.exchange.Stop.TheVariants as stop
use Rattle.pgw_tokio_moving.specs.Moving.{Mover, MovesStreamBytes, Step, Stops as Ends_by}
use Rattle.pgw_tokio.specs.Tape.{with_call, tape_after}

-- nothing is put out, and no more is asked for
pub record Idle {S E : Type 0} (e : E) (h : Mover S E) : Type 0 where
  pub engine_is : h.engine ≡ e
  pub over : h.turn ≡ turn.Over
  pub empty : h.out ≡ []
  pub still : h.unflushed ≡ false

idle_at : {S E : Type 0} (e : E) (h : Mover S E) (stream : S) → Idle e h
    → Idle e (record h { stream = stream })
idle_at e h stream i = record { engine_is = i.engine_is; over = i.over; empty = i.empty; still = i.still }

module _ {S E : Type 0} (reader : AsyncRead.Ghosts S) (writer : AsyncWrite.Ghosts S)
    (engine : Engine.Ghosts E) (e : E) where
  idle_call : (t : Tape) (old new : Mover S E) (call : Call) → CallGoesOn call
      → Step reader writer engine old call new → Idle e old → Idle e new × (with_call t call ≡ t)
  idle_call t old new (Gave bytes) on step i = absurd (let no = sym (step.1).1 ∙ i.over in cc)
  idle_call t old new Ended on step i = absurd on
  idle_call t old new (Wrote bytes) on step i =
      let d = step.1 in
      absurd (omega (arith, (step.0).1, ap length d.0, ap length i.empty, length-append bytes new.out))
  idle_call t old new Flushed on step i = absurd (let no = sym (step.1).1 ∙ i.still in cc)
  idle_call t old new Waited on step i = (subst (Idle e) (sym step.1) (idle_at e old new.stream i), refl)
  idle_call t old new (Unread x) on step i = absurd on
  idle_call t old new (Unwritten x) on step i = absurd on
  idle_call t old new (Unflushed x) on step i = absurd on

  pub idle_runs : (t : Tape) (old new : Mover S E) (calls : List Call)
      → MovesStreamBytes reader writer engine old calls new → Idle e old → Idle e new × (tape_after t calls ≡ t)
  idle_runs t old new [] runs i = (subst (Idle e) runs i, refl)
  idle_runs t old new (call ∷ calls) runs i =
      let c = idle_call t old runs.0 call runs.1 runs.2 i in
      let r = idle_runs (with_call t call) runs.0 new calls runs.3 c.0 in
      (r.0, r.1 ∙ c.1)

  idle_fault : (mid new : Mover S E) (call : Call) (x : Error) → fault_of call ≡ Some x
      → Step reader writer engine mid call new → Idle e mid → ⊥
  idle_fault mid new (Unread y) x is step i = let no = sym (step.1).1 ∙ i.over in cc
  idle_fault mid new (Unwritten y) x is step i = omega (arith, (step.1).0, ap length i.empty)
  idle_fault mid new (Unflushed y) x is step i = let no = sym (step.1).1 ∙ i.still in cc
  idle_fault mid new call x is step i = cc

  pub idle_stops : (why : Stop) (mid new : Mover S E) (last : List Call)
      → Ends_by reader writer engine mid why last new → Idle e mid
      → (why ≡ stop.Over) × (last ≡ []) × (mid ≡ new)
  idle_stops stop.Over mid new last stops i = (refl, stops.1, stops.0)
  idle_stops stop.End mid new last stops i = absurd (let no = sym ((stops.1).1).1 ∙ i.over in cc)
  idle_stops (stop.Fault x) mid new last stops i = absurd (idle_fault mid new stops.0 x stops.2 stops.3 i)
