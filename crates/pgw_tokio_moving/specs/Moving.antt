-- What moving bytes does to an engine, call by call of the stream.
use Rattle.std.specs.Prelude.{◌≡◌, ◌≤◌, ◌<◌, ◌⊎◌, ℕ, Bool, true, false, List, [], ◌∷◌, ◌++◌, length, Some, Result, Ok, Err}
use Rattle.std.specs.declared.io.Error.{Error}
use Rattle.futures.specs.declared.task.Poll.{Poll}
use Rattle.futures.specs.declared.task.Poll.TheVariants.{Ready, Pending}
use Rattle.tokio.specs.declared.io.async_read.AsyncRead as AsyncRead
use Rattle.tokio.specs.declared.io.async_write.AsyncWrite as AsyncWrite
use Rattle.pgw_tokio_moving.specs.declared.engine.Engine as Engine
use Rattle.pgw_tokio_moving.specs.declared.engine.Turn.{Turn}
use Rattle.pgw_tokio_moving.specs.declared.engine.Turn.TheVariants.{More, Over}
use Rattle.pgw_tokio_moving.specs.declared.exchange.Exchange.{Exchange}
use Rattle.pgw_tokio_moving.specs.declared.exchange.Stop.{Stop}
use Rattle.pgw_tokio_moving.specs.declared.exchange.Stop.TheVariants as stop
use Rattle.pgw_tokio_moving.specs.Calls.{Call, Gave, Ended, Wrote, Flushed, Waited, Unread, Unwritten, Unflushed, CallGoesOn, DidStreamCall, fault_of}

-- a stream, an engine with what it answered last, what it put out and is not written yet, and whether anything was
-- written since the last flush
pub record Mover (S E : Type 0) : Type 0 where
  pub stream : S
  pub engine : E
  pub turn : Turn
  pub out : List ℕ
  pub unflushed : Bool

abbrev pub held_in : {S E : Type 0} → Exchange S E → Mover S E
held_in x = record {
  stream = x.stream;
  engine = x.engine;
  turn = x.turn;
  out =
      x.out.items;
  unflushed = x.unflushed;
}

-- all that the engine put out was written and flushed
abbrev pub IsSent : {S E : Type 0} → Mover S E → Type 0
IsSent h = (h.out ≡ []) × (h.unflushed ≡ false)

-- all but the stream stays
abbrev pub IsSameButStream : {S E : Type 0} → Mover S E → Mover S E → Type 0
IsSameButStream old new = new ≡ record old { stream = new.stream }

module _ {S E : Type 0} (reader : AsyncRead.Ghosts S) (writer : AsyncWrite.Ghosts S)
    (engine : Engine.Ghosts E) where
  -- What a call does besides. It reads only where the engine waits for more and all that it put out is written and
  -- flushed; what comes goes to the engine, and what is written is the front of what the engine put out.
  abbrev pub DoesStreamCall : Mover S E → Call → Mover S E → Type 0
  DoesStreamCall old (Gave bytes) new =
      IsSent old × (old.turn ≡ More) × (length bytes ≤ engine.room old.engine)
      × engine.takes old.engine bytes new.out new.turn new.engine × (new.unflushed ≡ false)
  DoesStreamCall old Ended new = IsSent old × (old.turn ≡ More) × IsSameButStream old new
  DoesStreamCall old (Wrote bytes) new =
      (old.out ≡ bytes ++ new.out)
      × (new ≡ record old { stream = new.stream; out = new.out; unflushed = true })
  DoesStreamCall old Flushed new =
      (old.out ≡ []) × (old.unflushed ≡ true)
      × (new ≡ record old { stream = new.stream; unflushed = false })
  DoesStreamCall old Waited new = IsSameButStream old new
  DoesStreamCall old (Unread e) new = IsSent old × (old.turn ≡ More) × IsSameButStream old new
  DoesStreamCall old (Unwritten e) new = (0 < length old.out) × IsSameButStream old new
  DoesStreamCall old (Unflushed e) new = (old.out ≡ []) × (old.unflushed ≡ true)
      × IsSameButStream old new

  abbrev pub Step : Mover S E → Call → Mover S E → Type 0
  Step old call new = DidStreamCall reader writer old.stream call new.stream
      × DoesStreamCall old call new

  -- these calls, none of which failed or met the end
  abbrev pub MovesStreamBytes : Mover S E → List Call → Mover S E → Type 0
  MovesStreamBytes old [] new = old ≡ new
  MovesStreamBytes old (call ∷ calls) new =
      (mid : Mover S E) × CallGoesOn call × Step old call mid × MovesStreamBytes mid calls new

  -- what a poll did: some calls, and where it is ready with an error the call that failed so
  abbrev pub Last : {T : Type 0} → Mover S E → Poll (Result T Error) → Mover S E → Type 0
  Last mid (Ready (Err e)) new = (call : Call) × (fault_of call ≡ Some e) × Step mid call new
  Last mid (Ready (Ok value)) new = mid ≡ new
  Last mid Pending new = mid ≡ new

  abbrev pub PolledStream : {T : Type 0} → Mover S E → Mover S E → Poll (Result T Error) → Type 0
  PolledStream old new polled =
      (calls : List Call) × (mid : Mover S E) × MovesStreamBytes old calls mid × Last mid polled new

  -- what a poll that reads did: false is the answer at the stream's end alone
  abbrev pub Meets : Mover S E → Poll (Result Bool Error) → Mover S E → Type 0
  Meets mid (Ready (Ok false)) new = Step mid Ended new
  Meets mid polled new = Last mid polled new

  abbrev pub Met : Mover S E → Mover S E → Poll (Result Bool Error) → Type 0
  Met old new polled =
      (calls : List Call) × (mid : Mover S E) × MovesStreamBytes old calls mid
      × Meets mid polled new

  -- the last call of an exchange that ended so
  abbrev pub Stops : Mover S E → Stop → List Call → Mover S E → Type 0
  Stops mid stop.Over last new = (mid ≡ new) × (last ≡ []) × IsSent new × (new.turn ≡ Over)
  Stops mid stop.End last new = (last ≡ Ended ∷ []) × Step mid Ended new
  Stops mid (stop.Fault e) last new =
      (call : Call) × (last ≡ call ∷ []) × (fault_of call ≡ Some e) × Step mid call new

  -- the calls of an exchange that ended so: none failed or met the end but the last
  pub record Ran (old : Mover S E) (why : Stop) (new : Mover S E) : Type 0 where
    pub calls : List Call
    pub mid : Mover S E
    pub runs : MovesStreamBytes old calls mid
    pub last : List Call
    pub stops : Stops mid why last new

-- the sources that a pending poll waits for: the reader's where all is sent, else the writer's
abbrev pub WaitsFor : {S E : Type 0} → AsyncRead.Ghosts S → AsyncWrite.Ghosts S
    → Mover S E → ℕ → Type 0
WaitsFor reader writer h source =
    (IsSent h × reader.needs h.stream source) ⊎ ((IsSent h → ⊥) × writer.needs h.stream source)

-- the engine stands as it answered
abbrev pub HasSoundEngine : {S E : Type 0} → Engine.Ghosts E → Mover S E → Type 0
HasSoundEngine engine h = engine.stands h.engine h.turn
