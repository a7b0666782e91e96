-- The contract of a login over a stream.
use Rattle.std.specs.Prelude.{◌≡◌, ◌⊎◌, ℕ, false, List, [], ◌∷◌, None, Result, Ok, Err, IsSomeAnd}
use Rattle.tokio.specs.declared.io.async_read.AsyncRead as AsyncRead
use Rattle.tokio.specs.declared.io.async_write.AsyncWrite as AsyncWrite
use Rattle.pgw_backend.specs.declared.client_error.PgWireClientError.TheVariants as client
use Rattle.pgw_frontend.specs.Frontend.{encodings}
use Rattle.pgw_dialogue.specs.Demands.{IsInvalidConfig}
use Rattle.pgw_dialogue.specs.Dialogue.{StartCause}
use Rattle.pgw_session.specs.Input.{Input}
use Rattle.pgw_session.specs.Segments.{startup_message}
use Rattle.pgw_tokio_moving.specs.Calls.{Call, Trail}
use Rattle.pgw_tokio_moving.specs.Future.{BoxCameTo}
use Rattle.pgw_tokio_moving.specs.Moving.{Mover, held_in}
use Rattle.pgw_tokio_moving.specs.declared.engine.Turn.TheVariants.{More}
use Rattle.pgw_tokio_moving.specs.declared.exchange.Stop.{Stop}
use Rattle.pgw_tokio_moving.specs.declared.moving.BoxedMoved.{BoxedMoved}
use Rattle.pgw_client_push.specs.declared.client.PushClient.{PushClient}
use Rattle.pgw_client_push.specs.Standing.{IsOpen, StandsFor}
use Rattle.pgw_tokio.specs.declared.calling.ClientEngine.{ClientEngine}
use Rattle.pgw_tokio.specs.declared.client.AsyncClient.{AsyncClient}
use Rattle.pgw_tokio.specs.declared.login.LoggingIn.{LoggingIn}
use Rattle.pgw_tokio.specs.declared.login.NotLoggedIn.{NotLoggedIn}
use Rattle.pgw_tokio.specs.Calling.{ClientStands, LoginAnswers, client_members}
use Rattle.pgw_tokio.specs.Client.{IsUsable, AsyncStands, fault_in, push_in, stream_in}
use Rattle.pgw_tokio.specs.Failing.{Fails, IsStreamFlushed}
use Rattle.pgw_tokio.specs.Faults.{fault_after}
use Rattle.pgw_tokio.specs.Tape.{stream_errors, error_list, stream_tape}

-- ---- what is promised

-- a configuration is refused by this key, or memory is wanting
abbrev pub RefusesLogin : {S : Type 0} → List ℕ → Result (LoggingIn S) (NotLoggedIn S) → Type 0
RefusesLogin key (Ok f) = ⊥
RefusesLogin key (Err n) = IsInvalidConfig key n.error

-- nothing was begun, for its cause, and the stream is as it was
pub record IsUnbegun {S : Type 0} (input : Input) (limit : ℕ) (stream : S) (n : NotLoggedIn S) :
    Type 0 where
  pub same : n.stream ≡ stream
  pub calm : n.fault ≡ None
  pub cause : ((n.error ≡ client.ReadLimit) × (limit ≡ 0)) ⊎ StartCause input n.error

-- the client can be asked, all that was written was flushed, and it stands for the bytes given and written
pub record HasLoggedIn {S : Type 0} (input : Input) (limit : ℕ) (calls : List Call)
    (c : AsyncClient S) : Type 0 where
  pub usable : IsUsable c
  pub flushed : IsStreamFlushed (stream_tape calls)
  pub unended : (stream_tape calls).ended ≡ []
  pub calm : stream_errors calls ≡ []
  pub stands : AsyncStands input limit c (stream_tape calls).took (stream_tape calls).wrote

-- it failed on its way, with the error of the call that failed, if one did
pub record FailsToLogIn {S : Type 0} (input : Input) (limit : ℕ) (calls : List Call)
    (n : NotLoggedIn S) : Type 0 where
  pub faults : stream_errors calls ≡ error_list n.fault
  pub push : PushClient
  pub fails : Fails input limit [] [] (stream_tape calls) push n.fault n.error

abbrev pub LoginOutcome : {S : Type 0} → Input → ℕ → List Call
    → Result (AsyncClient S) (NotLoggedIn S)
    → Type 0
LoginOutcome input limit calls (Ok c) = HasLoggedIn input limit calls c
LoginOutcome input limit calls (Err n) = FailsToLogIn input limit calls n

abbrev pub stream_of : {S : Type 0} → Result (AsyncClient S) (NotLoggedIn S) → S
stream_of (Ok c) = stream_in c
stream_of (Err n) = n.stream

-- What is promised of a login over a stream: calls were made, which the stream's own members tell, and what they came to.
-- What each call did besides is `came` of what the future gives.
module _ {S : Type 0} (reader : AsyncRead.Ghosts S) (writer : AsyncWrite.Ghosts S) where
  pub record LogsInOverStream (input : Input) (limit : ℕ) (first : S)
      (result : Result (AsyncClient S) (NotLoggedIn S)) : Type 0 where
    pub calls : List Call
    pub trail : Trail reader writer first calls (stream_of result)
    pub outcome : LoginOutcome input limit calls result

-- ---- how it begins

-- the startup message is to be written
pub record IsAboutToLogIn {S : Type 0} (input : Input) (limit : ℕ) (stream : S)
    (h : Mover S ClientEngine) : Type 0 where
  pub here : h.stream ≡ stream
  pub still : h.unflushed ≡ false
  pub more : h.turn ≡ More
  pub refusal : h.engine.refusal ≡ None
  pub opens : IsOpen h.engine.client
  pub encoded : encodings (startup_message input ∷ []) ≡ Ok h.out
  pub stands : StandsFor input limit h.engine.client [] h.out

-- it is about to log in over this stream
abbrev pub IsLoginOf : {S : Type 0} → Input → ℕ → S → LoggingIn S → Type 0
IsLoginOf input limit stream f =
    IsSomeAnd f.moving.state (λ b. IsAboutToLogIn input limit stream (held_in b.value))

-- it has not given what it gives
abbrev pub StreamCanLogIn : {S : Type 0} → LoggingIn S → Type 0
StreamCanLogIn f = IsSomeAnd f.moving.state (λ b. ClientStands b.value.engine b.value.turn)

-- ---- what it gives

-- by why no more was moved
abbrev pub EndsLogin : {S : Type 0} → S → ClientEngine → Stop
    → Result (AsyncClient S) (NotLoggedIn S) → Type 0
EndsLogin stream e why (Ok c) =
    (stream_in c ≡ stream) × (fault_in c ≡ None)
    × LoginAnswers e.client e.refusal why (Ok (push_in c))
EndsLogin stream e why (Err n) =
    (n.stream ≡ stream) × (n.fault ≡ fault_after why None)
    × LoginAnswers e.client e.refusal why (Err n.error)

module _ {S : Type 0} (reader : AsyncRead.Ghosts S) (writer : AsyncWrite.Ghosts S) where
  -- Calls were made, as `pgw_tokio_moving` tells them, and it is answered by why no more was moved; so it is what is
  -- promised of a login, where it was about to log in.
  pub record GivesLogin (f : LoggingIn S) (result : Result (AsyncClient S) (NotLoggedIn S)) : Type 0
    where
      pub moved : BoxedMoved S ClientEngine
      pub came : IsSomeAnd f.moving.state
          (λ b. BoxCameTo reader writer client_members (held_in b.value) moved)
      pub ends : EndsLogin moved.exchange.value.stream moved.exchange.value.engine moved.stop result
      pub logs : (input : Input) (limit : ℕ) (first : S) → IsLoginOf input limit first f
          → LogsInOverStream reader writer input limit first result
