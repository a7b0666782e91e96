-- The contract of a request over a stream.
use Rattle.std.specs.Prelude.{◌≡◌, ◌⊎◌, ℕ, Bool, false, List, [], ◌++◌, Result, Ok, Err, IsSomeAnd}
use Rattle.std.specs.Bool.{Decides}
use Rattle.tokio.specs.declared.io.async_read.AsyncRead as AsyncRead
use Rattle.tokio.specs.declared.io.async_write.AsyncWrite as AsyncWrite
use Rattle.pgw_types.specs.declared.error.PgWireError.{PgWireError}
use Rattle.pgw_backend.specs.declared.client_error.PgWireClientError.{PgWireClientError as ClientError}
use Rattle.pgw_backend.specs.declared.client_error.PgWireClientError.TheVariants as client
use Rattle.pgw_frontend.specs.Frontend.{encodings}
use Rattle.pgw_link.specs.Tape.{new_tape}
use Rattle.pgw_session.specs.declared.types.Answer.{Answer}
use Rattle.pgw_session.specs.declared.types.Request.{Request}
use Rattle.pgw_session.specs.Input.{Input}
use Rattle.pgw_session.specs.Requests.{sends_of}
use Rattle.pgw_tokio_moving.specs.Calls.{Call, Trail}
use Rattle.pgw_tokio_moving.specs.Future.{BoxCameTo}
use Rattle.pgw_tokio_moving.specs.Moving.{Mover, held_in}
use Rattle.pgw_tokio_moving.specs.declared.moving.BoxedMoved.{BoxedMoved}
use Rattle.pgw_client_push.specs.Calls.{IsLastAnswer, input_with_request}
use Rattle.pgw_tokio.specs.declared.asking.Answered.{Answered}
use Rattle.pgw_tokio.specs.declared.asking.Asking.{Asking}
use Rattle.pgw_tokio.specs.declared.calling.ClientEngine.{ClientEngine}
use Rattle.pgw_tokio.specs.declared.client.AsyncClient.{AsyncClient}
use Rattle.pgw_tokio.specs.Calling.{BeginsRequest, ClientStands, RequestAnswers, client_members}
use Rattle.pgw_tokio.specs.Client.{IsUsable, AsyncStands, fault_in, push_in, stream_in}
use Rattle.pgw_tokio.specs.Failing.{Fails, IsStreamFlushed}
use Rattle.pgw_tokio.specs.Faults.{fault_after}
use Rattle.pgw_tokio.specs.Tape.{stream_errors, error_list, stream_tape}

-- ---- what is promised

module _ {S : Type 0} (old : AsyncClient S) (q : Request) (calls : List Call)
    (new : AsyncClient S) where
  -- no byte moved, no call failed, and the client is as it was but for its stream
  pub record Stays : Type 0 where
    pub tape : stream_tape calls ≡ new_tape
    pub calm : stream_errors calls ≡ []
    pub push : push_in new ≡ push_in old
    pub fault : fault_in new ≡ fault_in old

  -- It can be asked again, and all that was written was flushed. For all bytes that it stood for it stands for them with
  -- those given and written now, of a session with this request behind those asked before, and the answer is the last
  -- of that session.
  pub record GivesAnswer (answer : Answer) : Type 0 where
    pub was : IsUsable old
    pub usable : IsUsable new
    pub flushed : IsStreamFlushed (stream_tape calls)
    pub unended : (stream_tape calls).ended ≡ []
    pub calm : stream_errors calls ≡ []
    pub stands : (input : Input) (limit : ℕ) (given put : List ℕ)
        → AsyncStands input limit old given put
        → AsyncStands (input_with_request input q) limit new (given ++ (stream_tape calls).took)
        (put ++ (stream_tape calls).wrote)
    pub last : (input : Input) (limit : ℕ) (given put : List ℕ)
        → AsyncStands input limit old given put
        → IsLastAnswer (input_with_request input q) (given ++ (stream_tape calls).took)
        (put ++ (stream_tape calls).wrote) answer

  -- an earlier call failed
  pub record IsAskingBroken (e : ClientError) : Type 0 where
    pub was : IsUsable old → ⊥
    pub is : e ≡ client.Broken
    pub stays : Stays

  -- the request has no spelling, or memory was wanting
  pub record IsUnasked (e : ClientError) : Type 0 where
    pub was : IsUsable old
    pub stays : Stays
    pub cause : (e ≡ client.OutOfMemory)
        ⊎ ((why : PgWireError) × (encodings (sends_of q) ≡ Err why) ×
        (e ≡ client.PgWireError why))

  -- the request has a spelling, it failed on its way, and the client can't be asked again
  pub record FailsToAnswer (e : ClientError) : Type 0 where
    pub was : IsUsable old
    pub spelled : (opening : List ℕ) × (encodings (sends_of q) ≡ Ok opening)
    pub faults : stream_errors calls ≡ error_list (fault_in new)
    pub broken : (input : Input) (limit : ℕ) (given put : List ℕ)
        → AsyncStands input limit old given put
        → IsUsable new → ⊥
    pub fails : (input : Input) (limit : ℕ) (given put : List ℕ)
        → AsyncStands input limit old given put
        → Fails (input_with_request input q) limit given put (stream_tape calls) (push_in new)
        (fault_in new) e

  abbrev pub AskingOutcome : Result Answer ClientError → Type 0
  AskingOutcome (Ok answer) = GivesAnswer answer
  AskingOutcome (Err e) = IsAskingBroken e ⊎ (IsUnasked e ⊎ FailsToAnswer e)

-- What is promised of a request over a stream: calls were made, which the stream's own members tell, and what they came
-- to. What each call did besides is `came` of what the future gives.
module _ {S : Type 0} (reader : AsyncRead.Ghosts S) (writer : AsyncWrite.Ghosts S) where
  pub record AsksOverStream (old : AsyncClient S) (q : Request) (answered : Answered S) : Type 0
    where
      pub calls : List Call
      pub trail : Trail reader writer (stream_in old) calls (stream_in answered.client)
      pub outcome : AskingOutcome old q calls answered.client answered.answer

-- ---- how it begins

abbrev pub IsAboutToAsk : {S : Type 0} → Bool → AsyncClient S → Request → Mover S ClientEngine
    → Type 0
IsAboutToAsk is_usable old q h =
    (h.stream ≡ stream_in old) × (h.unflushed ≡ false)
    × BeginsRequest is_usable (push_in old) q h.engine h.turn h.out

-- it is about to ask this request of this client
pub record IsAskingOf {S : Type 0} (old : AsyncClient S) (q : Request) (f : Asking S) : Type 0
  where
    pub is_usable : Bool
    pub decides : Decides is_usable (IsUsable old)
    pub fault : IsSomeAnd f.moving.state (λ b. b.value.engine.fault ≡ fault_in old)
    pub about : IsSomeAnd f.moving.state (λ b. IsAboutToAsk is_usable old q (held_in b.value))

-- it has not given what it gives
abbrev pub CanAsk : {S : Type 0} → Asking S → Type 0
CanAsk f = IsSomeAnd f.moving.state (λ b. ClientStands b.value.engine b.value.turn)

-- ---- what it gives

module _ {S : Type 0} (reader : AsyncRead.Ghosts S) (writer : AsyncWrite.Ghosts S) where
  -- Calls were made, as `pgw_tokio_moving` tells them, and it is answered by why no more was moved; so it is what is
  -- promised of a request, where it was about to ask one.
  pub record GivesAnswered (f : Asking S) (answered : Answered S) : Type 0 where
    pub moved : BoxedMoved S ClientEngine
    pub came : IsSomeAnd f.moving.state
        (λ b. BoxCameTo reader writer client_members (held_in b.value) moved)
    pub stream : stream_in answered.client ≡ moved.exchange.value.stream
    pub answers : RequestAnswers moved.exchange.value.engine.client
        moved.exchange.value.engine.refusal moved.stop (push_in answered.client) answered.answer
    pub fault : fault_in answered.client
        ≡ fault_after moved.stop moved.exchange.value.engine.fault
    pub asks : (old : AsyncClient S) (q : Request) → IsAskingOf old q f
        → AsksOverStream reader writer old q answered
