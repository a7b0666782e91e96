-- The contract of bytes that are written over a stream, with nothing awaited.
use Rattle.std.specs.Prelude.{◌≡◌, ◌<◌, ℕ, false, List, [], ◌++◌, Option, Some, None, Result, Ok, Err, IsSomeAnd}
use Rattle.std.specs.declared.io.Error.{Error}
use Rattle.std.proofs.Common.{arith}
use Rattle.tokio.specs.declared.io.async_read.AsyncRead as AsyncRead
use Rattle.tokio.specs.declared.io.async_write.AsyncWrite as AsyncWrite
use Rattle.pgw_backend.specs.declared.client_error.PgWireClientError.{PgWireClientError as ClientError}
use Rattle.pgw_backend.specs.declared.client_error.PgWireClientError.TheVariants as client
use Rattle.pgw_tokio_moving.specs.Calls.{Call, Trail}
use Rattle.pgw_tokio_moving.specs.Future.{CameTo}
use Rattle.pgw_tokio_moving.specs.Moving.{Mover, held_in}
use Rattle.pgw_tokio_moving.specs.declared.engine.Engine as Engine
use Rattle.pgw_tokio_moving.specs.declared.engine.Turn.{Turn}
use Rattle.pgw_tokio_moving.specs.declared.engine.Turn.TheVariants.{More, Over}
use Rattle.pgw_tokio_moving.specs.declared.exchange.Stop.{Stop}
use Rattle.pgw_tokio_moving.specs.declared.exchange.Stop.TheVariants as stop
use Rattle.pgw_tokio_moving.specs.declared.moving.Moved.{Moved}
use Rattle.pgw_tokio.specs.declared.sending.Sending.{Sending}
use Rattle.pgw_tokio.specs.declared.sending.Sent.{Sent}
use Rattle.pgw_tokio.specs.declared.sending.Silent.{Silent}
use Rattle.pgw_tokio.specs.Failing.{IsStreamFlushed}
use Rattle.pgw_tokio.specs.Tape.{stream_errors, error_list, stream_tape}

-- ---- an engine that lets go what it is given, and is over then

abbrev pub SilentFeeds : Silent → List ℕ → List ℕ → Turn → Silent → Type 0
SilentFeeds old given put turn new = (put ≡ []) × (turn ≡ Over)

abbrev pub SilentStands : Silent → Turn → Type 0
SilentStands e turn = Unit {0}

pub one_is_there : (e : Silent) → SilentStands e More → 0 < 1
one_is_there e waits = omega arith

abbrev pub silent_members : Engine.Ghosts Silent
silent_members = record { takes = SilentFeeds; stands = SilentStands; room = λ e. 1 }

-- ---- what is promised

-- By the result: all was written and flushed; or it was refused before, and what was put out, if anything, was written; or
-- a call failed, and what was written is a front.
abbrev pub SendingOutcome : List ℕ → Option ClientError → List Call → Option Error
    → Result (Unit {0}) ClientError → Type 0
SendingOutcome bytes refusal calls fault (Ok done) =
    (refusal ≡ None) × (fault ≡ None) × ((stream_tape calls).wrote ≡ bytes)
    × IsStreamFlushed (stream_tape calls)
SendingOutcome bytes refusal calls None (Err e) =
    (refusal ≡ Some e) × ((stream_tape calls).wrote ≡ bytes)
SendingOutcome bytes refusal calls (Some f) (Err e) =
    (e ≡ client.IoError) × ((rest : List ℕ) × (bytes ≡ (stream_tape calls).wrote ++ rest))

-- calls were made, which the stream's own members tell, that gave no byte
module _ {S : Type 0} (reader : AsyncRead.Ghosts S) (writer : AsyncWrite.Ghosts S) where
  pub record SendsOverStream (stream : S) (bytes : List ℕ) (refusal : Option ClientError)
      (sent : Sent S) :
      Type 0 where
    pub calls : List Call
    pub trail : Trail reader writer stream calls sent.stream
    pub faults : stream_errors calls ≡ error_list sent.fault
    pub took : (stream_tape calls).took ≡ []
    pub outcome : SendingOutcome bytes refusal calls sent.fault sent.result

-- ---- how it begins

pub record IsAboutToSend {S : Type 0} (stream : S) (bytes : List ℕ) (h : Mover S Silent) : Type 0
  where
    pub here : h.stream ≡ stream
    pub still : h.unflushed ≡ false
    pub over : h.turn ≡ Over
    pub puts : h.out ≡ bytes

-- it is about to write these bytes, or they were refused
abbrev pub IsToSend : {S : Type 0} → S → List ℕ → Option ClientError → Sending S → Type 0
IsToSend stream bytes refusal f =
    (f.refusal ≡ refusal) × IsSomeAnd f.moving.state (λ x. IsAboutToSend stream bytes (held_in x))

-- it has not given what it gives
abbrev pub CanSend : {S : Type 0} → Sending S → Type 0
CanSend f = IsSomeAnd f.moving.state (λ x. SilentStands x.engine x.turn)

-- ---- what it gives

abbrev pub SentOver : Option ClientError → Result (Unit {0}) ClientError → Type 0
SentOver None result = result ≡ Ok tt
SentOver (Some e) result = result ≡ Err e

abbrev pub EndsSending : {S : Type 0} → S → Stop → Option ClientError → Sent S → Type 0
EndsSending stream (stop.Fault f) refusal sent =
    (sent.stream ≡ stream) × (sent.fault ≡ Some f) × (sent.result ≡ Err client.IoError)
EndsSending stream why refusal sent =
    (sent.stream ≡ stream) × (sent.fault ≡ None) × SentOver refusal sent.result

module _ {S : Type 0} (reader : AsyncRead.Ghosts S) (writer : AsyncWrite.Ghosts S) where
  -- Calls were made, as `pgw_tokio_moving` tells them; so it is all that is promised of bytes that it was about to write.
  pub record GivesSent (f : Sending S) (sent : Sent S) : Type 0 where
    pub moved : Moved S Silent
    pub came : IsSomeAnd f.moving.state
        (λ x. CameTo reader writer silent_members (held_in x) moved)
    pub ends : EndsSending moved.stream moved.stop f.refusal sent
    pub sends : (stream : S) (bytes : List ℕ) (refusal : Option ClientError)
        → IsToSend stream bytes refusal f → SendsOverStream reader writer stream bytes refusal sent
