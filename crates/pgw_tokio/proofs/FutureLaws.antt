-- What the future of a session gives, by what its exchange does.
use Rattle.std.proofs.Common.{◌≡◌, ◌⊎◌, ℕ, List, Option, Some, None, Result, Ok, Err, refl, ◌∙◌, ap, sym, subst}
use Rattle.std.specs.Prelude.{IfOk, IsSomeAnd}
use Rattle.std.specs.declared.io.Error.{Error}
use Rattle.futures.specs.declared.task.Poll.{Poll}
use Rattle.futures.specs.declared.task.Poll.TheVariants.{Ready, Pending}
use Rattle.futures.specs.Poll.{IfReady, OnPending}
use Rattle.tokio.specs.declared.net.stream.ConnectFuture.{ConnectFuture}
use Rattle.tokio.specs.declared.net.stream.TcpStream.{TcpStream}
use Rattle.tokio.specs.declared.time.error.Elapsed.{Elapsed}
use Rattle.tokio.specs.declared.time.timeout.Timeout.{Timeout}
use Rattle.tokio.specs.Net.{connect_state, ConnectGives}
use Rattle.tokio.specs.Timers.{timeout_future}
use Rattle.pgw_tokio.specs.Connect.{HandsOutSocket}
use Rattle.pgw_tokio.specs.declared.sockets.Connecting.TheVariants.{Limited}
use Rattle.tokio.specs.declared.io.async_read.AsyncRead as AsyncRead
use Rattle.tokio.specs.declared.io.async_write.AsyncWrite as AsyncWrite
use Rattle.pgw_session.specs.Input.{Input}
use Rattle.pgw_tokio_moving.specs.Calls.{Call}
use Rattle.pgw_tokio_moving.specs.declared.engine.Turn.{Turn}
use Rattle.pgw_tokio_moving.specs.declared.engine.Turn.TheVariants as turn
use Rattle.pgw_tokio_moving.specs.declared.exchange.Exchange.{Exchange}
use Rattle.pgw_tokio_moving.specs.declared.exchange.Stop.{Stop}
use Rattle.pgw_tokio_moving.specs.declared.exchange.Stop.TheVariants as stop
use Rattle.pgw_tokio_moving.specs.declared.moving.Moved.{Moved}
use Rattle.pgw_tokio_moving.specs.Future.{CameTo, fresh_mover}
use Rattle.pgw_tokio_moving.specs.Moving.{Mover, held_in, Stops as Ends_by}
use Rattle.pgw_tokio.specs.declared.engine.SessionEngine.{SessionEngine}
use Rattle.pgw_tokio.specs.declared.holding.Ended.{Ended as TheEnded}
use Rattle.pgw_tokio.specs.declared.holding.SessionFuture.{SessionFuture}
use Rattle.pgw_tokio.specs.Engine.{StandsAs, StreamStandsBehind, session_members}
use Rattle.pgw_tokio.specs.Stream.{AnswersAs, GivesSession, HasBegun, IsAbout, OverStream, WasRefused}
use Rattle.pgw_tokio.proofs.ContractLaws.{over_stream}
use Rattle.pgw_tokio.proofs.UnderLaws.{IsSessions}

-- what holds where a poll is pending
pub on_pending : {A P : Type 0} (r : Poll A) → r ≡ Pending → OnPending r P → P
on_pending (Ready x) is holds = cc
on_pending Pending is holds = holds

-- what holds of what a poll gave
pub on_ready : {A : Type 0} (P : A → Type 0) (r : Poll A) (x : A) → r ≡ Ready x → IfReady r P → P x
on_ready P (Ready y) x is holds = let same : y ≡ x = cc in subst P same holds
on_ready P Pending x is holds = cc

-- a connection with a limit that is under way
pub limited_same : (old new : Timeout ConnectFuture)
    → ((x : Result (Result TcpStream Error) Elapsed) → IfOk x (ConnectGives (connect_state (timeout_future new)))
    → IfOk x (ConnectGives (connect_state (timeout_future old))))
    → (x : Result TcpStream Error) → HandsOutSocket (Limited new) x → HandsOutSocket (Limited old) x
limited_same old new same (Ok stream) gives = same (Ok (Ok stream)) gives
limited_same old new same (Err e) gives = tt

-- ---- how it begins

-- the exchange is the one that was made
pub about_by : {S : Type 0} (input : Input) (limit : ℕ) (stream : S) (e : SessionEngine) (t : Turn) (out : List ℕ)
    (o : Option (Exchange S SessionEngine)) → IsSomeAnd o (λ x. held_in x ≡ fresh_mover stream e t out)
    → HasBegun input limit e t out ⊎ WasRefused input limit e t out
    → IsSomeAnd o (λ x. IsAbout input limit stream (held_in x))
about_by input limit stream e t out None is begins = is
about_by input limit stream e t out (Some x) is begins =
    subst (IsAbout input limit stream) (sym is) (refl, refl, begins)

pub ready_by : {S : Type 0} (stream : S) (e : SessionEngine) (t : Turn) (out : List ℕ)
    (o : Option (Exchange S SessionEngine)) → IsSomeAnd o (λ x. held_in x ≡ fresh_mover stream e t out)
    → StandsAs e t
    → IsSomeAnd o (λ x. StandsAs x.engine x.turn)
ready_by stream e t out None is stands = is
ready_by {S} stream e t out (Some x) is stands =
    subst (λ (h : Mover S SessionEngine). StandsAs h.engine h.turn) (sym is) stands

-- ---- how it ends

module _ {S : Type 0} (reader : AsyncRead.Ghosts S) (writer : AsyncWrite.Ghosts S) where
  sessions : IsSessions reader writer session_members
  sessions = record { takes = λ old new given put t feeds. feeds; room = λ e. refl; stands = λ e t holds. holds }

  behind_at : (why : Stop) (mid new : Mover S SessionEngine) (last : List Call)
      → Ends_by reader writer session_members mid why last new → StandsAs new.engine new.turn
      → StreamStandsBehind new.engine why
  behind_at stop.Over mid new last stops stands = subst (StandsAs new.engine) stops.3 stands
  behind_at stop.End mid new last stops stands =
      let d = (stops.1).1 in
      let more : new.turn ≡ turn.More = ap (λ (h : Mover S SessionEngine). h.turn) d.2 ∙ d.1 in
      subst (StandsAs new.engine) more stands
  behind_at (stop.Fault e) mid new last stops stands = tt

  pub behind_by : (h : Mover S SessionEngine) (moved : Moved S SessionEngine)
      → CameTo reader writer session_members h moved → StreamStandsBehind moved.engine moved.stop
  behind_by h moved came =
      let ran = came.ran in
      subst (λ (e : SessionEngine). StreamStandsBehind e moved.stop) (sym came.engine_is)
      (behind_at moved.stop ran.mid came.last ran.last ran.stops came.stands)

  pub behind_some : (o : Option (Exchange S SessionEngine)) (moved : Moved S SessionEngine)
      → IsSomeAnd o (λ x. CameTo reader writer session_members (held_in x) moved)
      → StreamStandsBehind moved.engine moved.stop
  behind_some None moved came = absurd came
  behind_some (Some x) moved came = behind_by (held_in x) moved came

  over_some : (o : Option (Exchange S SessionEngine)) (moved : Moved S SessionEngine) (ended : TheEnded S)
      → IsSomeAnd o (λ x. CameTo reader writer session_members (held_in x) moved) → ended.stream ≡ moved.stream
      → AnswersAs moved.engine moved.stop ended.answer ended.fault → (input : Input) (limit : ℕ) (first : S)
      → IsSomeAnd o (λ x. IsAbout input limit first (held_in x))
      → OverStream reader writer input limit first ended
  over_some None moved ended came stream answers input limit first about = absurd came
  over_some (Some x) moved ended came stream answers input limit first about =
      over_stream reader writer session_members sessions input limit (held_in x) moved ended first about.0 about.1
      about.2 came stream answers

  pub gives_by : (f : SessionFuture S) (moved : Moved S SessionEngine) (ended : TheEnded S)
      → IsSomeAnd f.moving.state (λ x. CameTo reader writer session_members (held_in x) moved)
      → ended.stream ≡ moved.stream → AnswersAs moved.engine moved.stop ended.answer ended.fault
      → GivesSession reader writer f ended
  gives_by f moved ended came stream answers = record {
    moved = moved;
    came = came;
    stream = stream;
    answers = answers;
    over = over_some f.moving.state moved ended came stream answers;
  }
