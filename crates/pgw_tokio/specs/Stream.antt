-- The contract of a session over a stream.
use Rattle.std.specs.Prelude.{◌≡◌, ◌⊎◌, ℕ, false, List, [], length, Option, Some, None, Result, Ok, Err, IsSomeAnd, IfSome}
use Rattle.std.specs.declared.io.Error.{Error}
use Rattle.tokio.specs.declared.io.async_read.AsyncRead as AsyncRead
use Rattle.tokio.specs.declared.io.async_write.AsyncWrite as AsyncWrite
use Rattle.pgw_backend.specs.declared.client_error.PgWireClientError.{PgWireClientError as ClientError}
use Rattle.pgw_backend.specs.declared.client_error.PgWireClientError.TheVariants as client
use Rattle.pgw_link.specs.Tape.{new_tape}
use Rattle.pgw_link.specs.Foresight.{TapeEnds, Foreseen}
use Rattle.pgw_session.specs.Demands.{refused_config}
use Rattle.pgw_session.specs.Input.{Input}
use Rattle.pgw_session.specs.declared.types.SessionReport.{SessionReport}
use Rattle.pgw_dialogue.specs.Demands.{IsInvalidConfig}
use Rattle.pgw_dialogue.specs.Machine.{notes_end, report_at}
use Rattle.pgw_dialogue.specs.Wire.{IsEndError, Unless}
use Rattle.pgw_dialogue.specs.declared.dialogue.Dialogue.{Dialogue}
use Rattle.pgw_dialogue.specs.Dialogue.{StartCause, Starts}
use Rattle.pgw_client.specs.OverLink.{LinkSpan, OverLink}
use Rattle.pgw_tokio_moving.specs.Calls.{Call, Trail}
use Rattle.pgw_tokio_moving.specs.declared.engine.Turn.{Turn}
use Rattle.pgw_tokio_moving.specs.declared.engine.Turn.TheVariants as turn
use Rattle.pgw_tokio_moving.specs.declared.exchange.Stop.{Stop}
use Rattle.pgw_tokio_moving.specs.declared.exchange.Stop.TheVariants as stop
use Rattle.pgw_tokio_moving.specs.Moving.{Mover, held_in}
use Rattle.pgw_tokio_moving.specs.Future.{CameTo}
use Rattle.pgw_tokio_moving.specs.declared.moving.Moved.{Moved}
use Rattle.pgw_tokio.specs.declared.engine.SessionEngine.{SessionEngine}
use Rattle.pgw_tokio.specs.declared.holding.Ended.{Ended}
use Rattle.pgw_tokio.specs.declared.holding.SessionFuture.{SessionFuture}
use Rattle.pgw_tokio.specs.Engine.{StandsAs, session_members}
use Rattle.pgw_tokio.specs.First.{first_turn, refused_at}
use Rattle.pgw_tokio.specs.Tape.{stream_errors, error_list, stream_tape}

-- the tape of some calls, with the bytes to come before and behind them, where they are known
abbrev pub span_of : List Call → Option (List ℕ) → Option (List ℕ) → LinkSpan
span_of calls was is =
    record {
      old = new_tape;
      new = stream_tape calls;
      was = was;
      is = is;
      before = 0;
      now =
          length (stream_errors calls);
    }

-- the bytes to come, before some calls and behind them, are what the calls tell
abbrev pub TellsStream : List Call → Option (List ℕ) → Option (List ℕ) → Type 0
TellsStream calls was is =
    Foreseen was is new_tape (stream_tape calls) × TapeEnds is new_tape (stream_tape calls)

module _ {S : Type 0} (reader : AsyncRead.Ghosts S) (writer : AsyncWrite.Ghosts S) where
  -- All that is promised of a session over a stream: calls were made, which the stream's own members tell, and over the
  -- tape of these calls it keeps the contract of `run_session`. The error kept is that of the call that failed.
  pub record OverStream (input : Input) (limit : ℕ) (first : S) (ended : Ended S) : Type 0 where
    pub calls : List Call
    pub trail : Trail reader writer first calls ended.stream
    pub fault : stream_errors calls ≡ error_list ended.fault
    pub over : (was is : Option (List ℕ)) → OverLink input limit (TellsStream calls was is)
        (span_of calls was is) ended.answer

-- ---- how it begins

-- its dialogue has begun,
abbrev pub HasBegun : Input → ℕ → SessionEngine → Turn → List ℕ → Type 0
HasBegun input limit engine said out =
    (d : Dialogue) × (engine.dialogue ≡ Some d) × Starts input limit [] out (Ok d)
    × (refused_config input.config ≡ None)
    × (engine.room ≡ limit) × (engine.refusal ≡ refused_at limit) × (said ≡ first_turn limit)

-- or it was refused, and nothing is put out
abbrev pub WasRefused : Input → ℕ → SessionEngine → Turn → List ℕ → Type 0
WasRefused input limit engine said out =
    (e : ClientError) × (engine.refusal ≡ Some e) × (said ≡ turn.Over) × (out ≡ [])
    × StartCause input e × IfSome (refused_config input.config) (λ key. IsInvalidConfig key e)

abbrev pub IsAbout : {S : Type 0} → Input → ℕ → S → Mover S SessionEngine → Type 0
IsAbout input limit stream h =
    (h.stream ≡ stream) × (h.unflushed ≡ false)
    × (HasBegun input limit h.engine h.turn h.out ⊎ WasRefused input limit h.engine h.turn h.out)

-- it is about to hold a session with this input and limit over this stream
abbrev pub IsSessionOf : {S : Type 0} → Input → ℕ → S → SessionFuture S → Type 0
IsSessionOf input limit stream f =
    IsSomeAnd f.moving.state (λ x. IsAbout input limit stream (held_in x))

-- it has not given what it gives
abbrev pub CanPoll : {S : Type 0} → SessionFuture S → Type 0
CanPoll f = IsSomeAnd f.moving.state (λ x. StandsAs x.engine x.turn)

-- ---- how it ends

-- what is answered where the engine is over, refused or not
abbrev pub AnswersOver : Option ClientError → Option Dialogue → Result SessionReport ClientError
    → Type 0
AnswersOver (Some e) d answer = answer ≡ Err e
AnswersOver None d answer = IsSomeAnd d (λ x. answer ≡ Ok (report_at x.notes))

-- what is answered, by why no more was moved
abbrev pub AnswersAs : SessionEngine → Stop → Result SessionReport ClientError → Option Error
    → Type 0
AnswersAs e stop.Over answer fault = AnswersOver e.refusal e.dialogue answer × (fault ≡ None)
AnswersAs e stop.End answer fault =
    (why : ClientError) × (answer ≡ Err why) × IsEndError why
    × IsSomeAnd e.dialogue (λ d. Unless why (why ≡ notes_end d.notes)) × (fault ≡ None)
AnswersAs e (stop.Fault f) answer fault = (answer ≡ Err client.IoError) × (fault ≡ Some f)

module _ {S : Type 0} (reader : AsyncRead.Ghosts S) (writer : AsyncWrite.Ghosts S) where
  -- What the future gives. Calls were made, as `pgw_tokio_moving` tells them, and it is answered by why no more was moved;
  -- so it is all that is promised of a session, where it was about to hold one.
  pub record GivesSession (f : SessionFuture S) (ended : Ended S) : Type 0 where
    pub moved : Moved S SessionEngine
    pub came : IsSomeAnd f.moving.state (λ x. CameTo reader writer session_members (held_in x)
        moved)
    pub stream : ended.stream ≡ moved.stream
    pub answers : AnswersAs moved.engine moved.stop ended.answer ended.fault
    pub over : (input : Input) (limit : ℕ) (first : S) → IsSessionOf input limit first f
        → OverStream reader writer input limit first ended
