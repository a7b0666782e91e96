-- What polls of an exchange come to, one behind the other.
use Rattle.std.proofs.Common.{◌≡◌, ◌⊎◌, ◌<◌, ◌≤◌, ℕ, List, [], ◌∷◌, ◌++◌, length, take, drop, Some, Result, Ok, Err, Bool, true, false, inl, inr, arith, refl, ◌∙◌, ap, sym, subst}
use Rattle.std.proofs.lemmas.List.{length-take-le, take-append-drop}
use Rattle.std.specs.declared.io.Error.{Error}
use Rattle.futures.specs.declared.task.Context.{Context}
use Rattle.futures.specs.declared.task.Poll.{Poll}
use Rattle.futures.specs.declared.task.Poll.TheVariants.{Ready, Pending}
use Rattle.futures.specs.Poll.{OnPending}
use Rattle.futures.specs.Task.{Covers, Hears, IsArmed}
use Rattle.std.specs.IoError.{error_kind}
use Rattle.std.specs.declared.io.ErrorKind.TheVariants.{WriteZero}
use Rattle.tokio.specs.Io.Moved.{bytes_moved, count_moved, IfReadyErr, OnReadyOk}
use Rattle.tokio.specs.declared.io.async_read.AsyncRead as AsyncRead
use Rattle.tokio.specs.declared.io.async_write.AsyncWrite as AsyncWrite
use Rattle.pgw_tokio_moving.specs.declared.engine.Engine as Engine
use Rattle.pgw_tokio_moving.specs.declared.exchange.Stop.{Stop}
use Rattle.pgw_tokio_moving.specs.declared.exchange.Stop.TheVariants as stop
use Rattle.pgw_tokio_moving.specs.declared.moving.Moved.{Moved}
use Rattle.pgw_tokio_moving.specs.declared.moving.BoxedMoved.{BoxedMoved}
use Rattle.pgw_tokio_moving.specs.Future.{CameTo, BoxCameTo, moved_of}
use Rattle.pgw_tokio_moving.specs.declared.engine.Turn.{Turn}
use Rattle.pgw_tokio_moving.specs.declared.engine.Turn.TheVariants.{More, Over}
use Rattle.pgw_tokio_moving.specs.Calls.{Call, Gave, Ended, Wrote, Flushed, Waited, Unread, Unwritten, Unflushed, CallGoesOn, fault_of}
use Rattle.pgw_tokio_moving.specs.Moving.{Mover, IsSameButStream, IsSent, Met, PolledStream, Ran, MovesStreamBytes, Step, WaitsFor}

-- no byte is there
pub no_bytes : (bytes : List ℕ) → (0 < length bytes → ⊥) → bytes ≡ []
no_bytes [] none = refl
no_bytes (byte ∷ bytes) none = absurd (none (omega arith))

-- what holds where a poll is pending
pub on_pending : {A P : Type 0} (r : Poll A) → r ≡ Pending → OnPending r P → P
on_pending (Ready x) is holds = cc
on_pending Pending is holds = holds

-- ---- one call

module _ {S E : Type 0} (reader : AsyncRead.Ghosts S) (writer : AsyncWrite.Ghosts S)
    (engine : Engine.Ghosts E)
  where
    -- what a poll did that did not fail, and one that failed
    abbrev pub Going : Mover S E → Mover S E → Type 0
    Going old new = (calls : List Call) × (mid : Mover S E) × MovesStreamBytes reader writer engine old calls mid ×
        (mid ≡ new)

    abbrev pub Broken : Mover S E → Mover S E → Error → Type 0
    Broken old new e = (calls : List Call) × (mid : Mover S E) × MovesStreamBytes reader writer engine old calls mid ×
        ((last : Call) × (fault_of last ≡ Some e) × Step reader writer engine mid last new)

    -- one that goes on
    pub going : (old new : Mover S E) (call : Call) → CallGoesOn call → Step reader writer engine old call new
        → Going old new
    going old new call on step = (call ∷ [], new, (new, on, step, refl), refl)

    -- none
    pub staying : (old new : Mover S E) → old ≡ new → Going old new
    staying old new same = ([], old, refl, same)

    -- one that failed
    pub breaking : (old new : Mover S E) (call : Call) (e : Error) → fault_of call ≡ Some e
        → Step reader writer engine old call new → Broken old new e
    breaking old new call e is step = ([], old, refl, (call, is, step))

    -- one that failed, or is to be made again
    pub failing : {T : Type 0} (old new : Mover S E) (again call : Call) (e : Error)
        (r : Poll (Result T Error))
        → CallGoesOn again → Step reader writer engine old again new
        → fault_of call ≡ Some e → Step reader writer engine old call new
        → (r ≡ Ready (Err e)) ⊎ (r ≡ Pending)
        → PolledStream reader writer engine old new r
    failing {T} old new again call e r on waits is fails (inl failed) =
        subst (PolledStream reader writer engine {T = T} old new) (sym failed) (breaking old new call e is fails)
    failing {T} old new again call e r on waits is fails (inr pending) =
        subst (PolledStream reader writer engine {T = T} old new) (sym pending) (going old new again on waits)

    pub met_failing : (old new : Mover S E) (again call : Call) (e : Error) (r : Poll (Result Bool Error))
        → CallGoesOn again → Step reader writer engine old again new
        → fault_of call ≡ Some e → Step reader writer engine old call new
        → (r ≡ Ready (Err e)) ⊎ (r ≡ Pending)
        → Met reader writer engine old new r
    met_failing old new again call e r on waits is fails (inl failed) =
        subst (Met reader writer engine old new) (sym failed) (breaking old new call e is fails)
    met_failing old new again call e r on waits is fails (inr pending) =
        subst (Met reader writer engine old new) (sym pending) (going old new again on waits)

    -- ---- more calls

    pub runs_on : (a b c : Mover S E) (first second : List Call) → MovesStreamBytes reader writer engine a first b
        → MovesStreamBytes reader writer engine b second c → MovesStreamBytes reader writer engine a (first ++ second) c
    runs_on a b c [] second p q = subst (λ h. MovesStreamBytes reader writer engine h second c) (sym p) q
    runs_on a b c (call ∷ first) second p q = (p.0, p.1, p.2, runs_on p.0 b c first second p.3 q)

    -- behind some calls
    abbrev pub Went : Mover S E → Mover S E → Type 0
    Went a b = (calls : List Call) × MovesStreamBytes reader writer engine a calls b

    -- behind a poll that did not fail
    pub went_on : (a b c : Mover S E) → Went a b → Going b c → Went a c
    went_on a b c w p = (
      w.0 ++ p.0,
      subst (MovesStreamBytes reader writer engine a (w.0 ++ p.0)) p.3
          (runs_on a b p.1 w.0 p.0 w.1 p.2),
    )

    pub polled_on : {T : Type 0} (a b c : Mover S E) (r : Poll (Result T Error)) → Went a b
        → PolledStream reader writer engine b c r → PolledStream reader writer engine a c r
    polled_on a b c r w p = (w.0 ++ p.0, p.1, runs_on a b p.1 w.0 p.0 w.1 p.2, p.3)

    pub polled_by : {T : Type 0} (a b c : Mover S E) (r s : Poll (Result T Error)) → r ≡ s → Went a b
        → PolledStream reader writer engine b c r → PolledStream reader writer engine a c s
    polled_by {T} a b c r s is w p = polled_on a b c s w
        (subst (PolledStream reader writer engine {T = T} b c) is p)

    pub went_pending : {T : Type 0} (a b c : Mover S E) (r : Poll (Result T Error)) → r ≡ Pending → Went a b
        → PolledStream reader writer engine b c r → Went a c
    went_pending {T} a b c r is w p = went_on a b c w (subst (PolledStream reader writer engine {T = T} b c) is p)

    pub went_ok : {T : Type 0} (a b c : Mover S E) (r : Poll (Result T Error)) (value : T)
        → r ≡ Ready (Ok value)
        → Went a b → PolledStream reader writer engine b c r → Went a c
    went_ok {T} a b c r value is w p = went_on a b c w (subst (PolledStream reader writer engine {T = T} b c) is p)

    pub met_pending : (a b c : Mover S E) (r : Poll (Result Bool Error)) → r ≡ Pending → Went a b
        → Met reader writer engine b c r → Went a c
    met_pending a b c r is w p = went_on a b c w (subst (Met reader writer engine b c) is p)

    pub met_ok : (a b c : Mover S E) (r : Poll (Result Bool Error)) → r ≡ Ready (Ok true) → Went a b
        → Met reader writer engine b c r → Went a c
    met_ok a b c r is w p = went_on a b c w (subst (Met reader writer engine b c) is p)

    -- other bytes to be written that are the same
    pub went_same : (a : Mover S E) (stream : S) (held : E) (turn : Turn) (unflushed : Bool) (out too : List ℕ)
        → out ≡ too
        → Went a (record { stream = stream; engine = held; turn = turn; out = out; unflushed = unflushed })
        → Went a (record { stream = stream; engine = held; turn = turn; out = too; unflushed = unflushed })
    went_same a stream held turn unflushed out too is w =
        subst (λ (o : List ℕ). Went a (record {
          stream = stream;
          engine = held;
          turn = turn;
          out = o;
          unflushed =
              unflushed;
        })) is w

    -- ---- the last call

    broken_by : (a b c : Mover S E) (e : Error) → Went a b → Broken b c e
        → Ran reader writer engine a (stop.Fault e) c
    broken_by a b c e w p = record {
      calls = w.0 ++ p.0;
      mid = p.1;
      runs = runs_on a b p.1 w.0 p.0 w.1 p.2;
      last = (p.3).0 ∷ [];
      stops = ((p.3).0, refl, (p.3).1, (p.3).2);
    }

    pub ran_fault : {T : Type 0} (a b c : Mover S E) (r : Poll (Result T Error)) (e : Error)
        → r ≡ Ready (Err e)
        → Went a b → PolledStream reader writer engine b c r → Ran reader writer engine a (stop.Fault e) c
    ran_fault {T} a b c r e is w p = broken_by a b c e w
        (subst (PolledStream reader writer engine {T = T} b c) is p)

    pub met_fault : (a b c : Mover S E) (r : Poll (Result Bool Error)) (e : Error) → r ≡ Ready (Err e)
        → Went a b
        → Met reader writer engine b c r → Ran reader writer engine a (stop.Fault e) c
    met_fault a b c r e is w p = broken_by a b c e w (subst (Met reader writer engine b c) is p)

    pub met_end : (a b c : Mover S E) (r : Poll (Result Bool Error)) → r ≡ Ready (Ok false) → Went a b
        → Met reader writer engine b c r → Ran reader writer engine a stop.End c
    met_end a b c r is w p =
        let q = subst (Met reader writer engine b c) is p in
        record {
          calls = w.0 ++ q.0;
          mid = q.1;
          runs = runs_on a b q.1 w.0 q.0 w.1 q.2;
          last = Ended ∷ [];
          stops =
              (refl, q.3);
        }

    pub ran_over : (a b : Mover S E) → Went a b → IsSent b → b.turn ≡ Over
        → Ran reader writer engine a stop.Over b
    ran_over a b w sent over = record {
      calls = w.0;
      mid = b;
      runs = w.1;
      last = [];
      stops =
          (refl, refl, sent, over);
    }

    pub ran_on : (a b c : Mover S E) (why : Stop) → Went a b → Ran reader writer engine b why c
        → Ran reader writer engine a why c
    ran_on a b c why w r = record {
      calls = w.0 ++ r.calls;
      mid = r.mid;
      runs =
          runs_on a b r.mid w.0 r.calls w.1 r.runs;
      last = r.last;
      stops = r.stops;
    }

    unfoldable pub came_on : (a b : Mover S E) (m : Moved S E) → Went a b → CameTo reader writer engine b m
        → CameTo reader writer engine a m
    came_on a b m w came = record {
      last = came.last;
      ran = ran_on a b came.last m.stop w came.ran;
      stands = came.stands;
      stream = came.stream;
      engine_is = came.engine_is;
      out = came.out;
    }

    pub box_came_on : (a b : Mover S E) (m : BoxedMoved S E) → Went a b → BoxCameTo reader writer engine b m
        → BoxCameTo reader writer engine a m
    unfolding came_on
    box_came_on a b m w later = record {
      came = came_on a b (moved_of m) w later.came;
      whole = later.whole;
    }

    -- ---- the calls

    abbrev pub moved_to : Mover S E → S → List ℕ → Bool → Mover S E
    moved_to old stream out unflushed = record {
      stream = stream;
      engine = old.engine;
      turn = old.turn;
      out =
          out;
      unflushed = unflushed;
    }

    same_but : (old : Mover S E) (stream : S) (out : List ℕ) → out ≡ old.out
        → IsSameButStream old (moved_to old stream out old.unflushed)
    same_but old stream out is = ap (λ o. moved_to old stream o old.unflushed) is

    -- a write of nothing, of some, or one that failed
    pub write_waited : (old : Mover S E) (stream : S) (out : List ℕ) (r : Poll (Result ℕ Error)) → r ≡ Pending
        → writer.writes old.stream (bytes_moved r old.out) stream → out ≡ drop (count_moved r) old.out
        → Going old (moved_to old stream out old.unflushed)
    write_waited old stream out (Ready x) is writes rest = cc
    write_waited old stream out Pending is writes rest =
        going old (moved_to old stream out old.unflushed) Waited tt (inr writes, same_but old stream out rest)

    pub write_full : (old : Mover S E) (stream : S) (out : List ℕ) (e : Error) (r : Poll (Result ℕ Error))
        → r ≡ Ready (Ok 0) → writer.writes old.stream (bytes_moved r old.out) stream
        → out ≡ drop (count_moved r) old.out
        → error_kind e ≡ WriteZero → (r ≡ Ready (Ok 0) → 0 < length old.out → writer.is_full stream)
        → 0 < length old.out
        → Broken old (moved_to old stream out old.unflushed) e
    write_full old stream out e Pending is writes rest kind full some = cc
    write_full old stream out e (Ready (Err x)) is writes rest kind full some = cc
    write_full old stream out e (Ready (Ok n)) is writes rest kind full some =
        let none : n ≡ 0 = cc in
        breaking old (moved_to old stream out old.unflushed) (Unwritten e) e refl (
          (
            subst (λ k. writer.writes old.stream (take k old.out) stream) none writes,
            inr (kind, full is some),
          ),
          (some, same_but old stream out (subst (λ k. out ≡ drop k old.out) none rest)),
        )

    pub write_took : (old : Mover S E) (stream : S) (out : List ℕ) (n : ℕ) (r : Poll (Result ℕ Error))
        → r ≡ Ready (Ok n) → (n ≡ 0 → ⊥) → writer.writes old.stream (bytes_moved r old.out) stream
        → out ≡ drop (count_moved r) old.out
        → count_moved r ≤ length old.out → Going old (moved_to old stream out true)
    write_took old stream out n Pending is some writes rest within = cc
    write_took old stream out n (Ready (Err x)) is some writes rest within = cc
    write_took old stream out n (Ready (Ok m)) is some writes rest within =
        let same : m ≡ n = cc in
        going old (moved_to old stream out true) (Wrote (take m old.out)) tt (
          (writes, omega (arith, some, same, length-take-le m old.out within)),
          (sym (take-append-drop m old.out) ∙ ap (λ (l : List ℕ). take m old.out ++ l) (sym rest), refl),
        )

    pub write_failed : {T : Type 0} (old : Mover S E) (stream : S) (out : List ℕ) (e : Error)
        (r : Poll (Result ℕ Error)) (p : Poll (Result T Error)) → r ≡ Ready (Err e)
        → writer.writes old.stream (bytes_moved r old.out) stream
        → out ≡ drop (count_moved r) old.out → IfReadyErr r (writer.fails stream) → 0 < length old.out
        → (p ≡ Ready (Err e)) ⊎ (p ≡ Pending)
        → PolledStream reader writer engine old (moved_to old stream out old.unflushed) p
    write_failed old stream out e Pending p is writes rest fails some which = cc
    write_failed old stream out e (Ready (Ok m)) p is writes rest fails some which = cc
    write_failed old stream out e (Ready (Err x)) p is writes rest fails some which =
        let same : x ≡ e = cc in
        failing old (moved_to old stream out old.unflushed) Waited (Unwritten e) e p tt
        (inr writes, same_but old stream out rest) refl
        ((writes, inl (subst (writer.fails stream) same fails)), (some, same_but old stream out rest)) which

    -- a flush
    pub flush_waited : (old : Mover S E) (stream : S) → writer.writes old.stream [] stream
        → Going old (moved_to old stream old.out old.unflushed)
    flush_waited old stream writes = going old (moved_to old stream old.out old.unflushed) Waited tt
        (inr writes, refl)

    pub flush_done : (old : Mover S E) (stream : S) (r : Poll (Result Unit Error)) (done : Unit {0})
        → r ≡ Ready (Ok done) → writer.writes old.stream [] stream → OnReadyOk r (writer.is_flushed stream)
        → old.out ≡ [] → old.unflushed ≡ true
        → Going old (moved_to old stream old.out false)
    flush_done old stream Pending done is writes flushed empty some = cc
    flush_done old stream (Ready (Err x)) done is writes flushed empty some = cc
    flush_done old stream (Ready (Ok x)) done is writes flushed empty some =
        going old (moved_to old stream old.out false) Flushed tt ((writes, flushed), (empty, some, refl))

    pub flush_failed : {T : Type 0} (old : Mover S E) (stream : S) (e : Error) (r : Poll (Result Unit Error))
        (p : Poll (Result T Error)) → r ≡ Ready (Err e) → writer.writes old.stream [] stream
        → IfReadyErr r (writer.fails stream) → old.out ≡ [] → old.unflushed ≡ true
        → (p ≡ Ready (Err e)) ⊎ (p ≡ Pending) → PolledStream reader writer engine old
        (moved_to old stream old.out old.unflushed) p
    flush_failed old stream e Pending p is writes fails empty some which = cc
    flush_failed old stream e (Ready (Ok x)) p is writes fails empty some which = cc
    flush_failed old stream e (Ready (Err x)) p is writes fails empty some which =
        let same : x ≡ e = cc in
        failing old (moved_to old stream old.out old.unflushed) Waited (Unflushed e) e p tt
        (inr writes, refl) refl
        ((writes, subst (writer.fails stream) same fails), (empty, some, refl)) which

    -- a read
    pub read_waited : (old : Mover S E) (stream : S) (piece : List ℕ) (r : Poll (Result ℕ Error)) → r ≡ Pending
        → reader.reads old.stream (bytes_moved r piece) stream
        → Going old (moved_to old stream old.out old.unflushed)
    read_waited old stream piece (Ready x) is reads = cc
    read_waited old stream piece Pending is reads =
        going old (moved_to old stream old.out old.unflushed) Waited tt
        (inl reads, refl)

    pub read_ended : (old : Mover S E) (stream : S) (piece : List ℕ) (r : Poll (Result ℕ Error))
        → r ≡ Ready (Ok 0)
        → reader.reads old.stream (bytes_moved r piece) stream → (r ≡ Ready (Ok 0) → reader.is_at_end stream)
        → IsSent old → old.turn ≡ More → (calls : List Call) × (mid : Mover S E) × MovesStreamBytes reader writer engine
        old calls
        mid × Step reader writer engine mid Ended (moved_to old stream old.out old.unflushed)
    read_ended old stream piece Pending is reads end sent more = cc
    read_ended old stream piece (Ready (Err x)) is reads end sent more = cc
    read_ended old stream piece (Ready (Ok n)) is reads end sent more =
        let none : n ≡ 0 = cc in (
          [],
          old,
          refl,
          (
            (subst (λ k. reader.reads old.stream (take k piece) stream) none reads, end is),
            (sent, more, refl),
          ),
        )

    pub read_gave : (old : Mover S E) (stream : S) (other : E) (turn : Turn) (piece given out : List ℕ) (n : ℕ)
        (r : Poll (Result ℕ Error)) → r ≡ Ready (Ok n) → reader.reads old.stream (bytes_moved r piece) stream
        → given ≡ take n piece
        → 0 < length given → length given ≤ engine.room old.engine → IsSent old → old.turn ≡ More
        → ((put : List ℕ) × (out ≡ old.out ++ put) × engine.takes old.engine given put turn other)
        → Going old (record {
          stream = stream;
          engine = other;
          turn = turn;
          out = out;
          unflushed =
              old.unflushed;
        })
    read_gave old stream other turn piece given out n Pending is reads are some fits sent more took = cc
    read_gave old stream other turn piece given out n (Ready (Err x)) is reads are some fits sent more took =
        cc
    read_gave old stream other turn piece given out n (Ready (Ok m)) is reads are some fits sent more took =
        let same : m ≡ n = cc in
        let put : took.0 ≡ out = sym (took.1 ∙ ap (λ (l : List ℕ). l ++ took.0) sent.0) in
        going old (record {
          stream = stream;
          engine = other;
          turn = turn;
          out = out;
          unflushed =
              old.unflushed;
        })
        (Gave given) tt (
          (
            subst (λ (l : List ℕ). reader.reads old.stream l stream) (ap (λ k. take k piece) same ∙ sym are)
                reads,
            some,
          ),
          (
            sent,
            more,
            fits,
            subst (λ (l : List ℕ). engine.takes old.engine given l turn other) put took.2,
            sent.1,
          ),
        )

    pub read_failed : (old : Mover S E) (stream : S) (piece : List ℕ) (e : Error) (r : Poll (Result ℕ Error))
        (p : Poll (Result Bool Error)) → r ≡ Ready (Err e)
        → reader.reads old.stream (bytes_moved r piece) stream
        → IfReadyErr r (reader.fails stream)
        → IsSent old → old.turn ≡ More → (p ≡ Ready (Err e)) ⊎ (p ≡ Pending)
        → Met reader writer engine old (moved_to old stream old.out old.unflushed) p
    read_failed old stream piece e Pending p is reads fails sent more which = cc
    read_failed old stream piece e (Ready (Ok x)) p is reads fails sent more which = cc
    read_failed old stream piece e (Ready (Err x)) p is reads fails sent more which =
        let same : x ≡ e = cc in
        met_failing old (moved_to old stream old.out old.unflushed) Waited (Unread e) e p tt
        (inl reads, refl) refl
        ((reads, subst (reader.fails stream) same fails), (sent, more, refl)) which

-- ---- where a poll waits

module _ {S E : Type 0} (reader : AsyncRead.Ghosts S) (writer : AsyncWrite.Ghosts S) where
  pub waits_to_read : (cx : Context) (h : Mover S E) → IsSent h → Covers cx (reader.needs h.stream)
      → Covers cx (WaitsFor reader writer h)
  waits_to_read cx h sent covers = (
    covers.0,
    λ source needed. elim needed
        [ inl read ↦ covers.1 source read.1 | inr write ↦ absurd (write.0 sent) ],
  )

  pub waits_to_write : (cx : Context) (h : Mover S E) → (IsSent h → ⊥) → Covers cx (writer.needs h.stream)
      → Covers cx (WaitsFor reader writer h)
  waits_to_write cx h not covers = (
    covers.0,
    λ source needed. elim needed
        [ inl read ↦ absurd (not read.0) | inr write ↦ covers.1 source write.1 ],
  )

  pub waits_again : (cx : Context) (h : Mover S E) → IsArmed cx × ((source : ℕ) → Hears cx source)
      → Covers cx (WaitsFor reader writer h)
  waits_again cx h all = (all.0, λ source needed. all.1 source)
