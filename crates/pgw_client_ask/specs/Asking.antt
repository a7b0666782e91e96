-- What a client stands for behind one request of any kind.
use Rattle.std.specs.Prelude.{◌≡◌, ◌⊎◌, ℕ, Bool, false, List, length, Option, Some, None, ◌++◌, Result, Ok, Err}
use Rattle.pgw_backend.specs.declared.client_error.PgWireClientError.{PgWireClientError as ClientError}
use Rattle.pgw_backend.specs.declared.client_error.PgWireClientError.TheVariants as client
use Rattle.pgw_config.specs.declared.config.Config.{Config}
use Rattle.pgw_session.specs.declared.types.Request.{Request}
use Rattle.pgw_session.specs.declared.types.Request.TheVariants as request
use Rattle.pgw_session.specs.declared.types.Answer.{Answer}
use Rattle.pgw_session.specs.declared.types.Answer.TheVariants as answer
use Rattle.pgw_handlers.specs.Client.{Client}
use Rattle.pgw_client_calls.specs.Line.{Line, MovesLine, Pause, IsFlushed, EndedWell, Halts, AtEnd}
use Rattle.pgw_client_calls.specs.Talk.{passes, is_remote}
use Rattle.pgw_client_calls.specs.Calls.{IsHalted}
use Rattle.pgw_client_laws.specs.Calls.{Comes}
use Rattle.pgw_client_laws.specs.Turns.{Does, IsAnswered}
use Rattle.pgw_client_laws.specs.Stands.{Made, StandsForCalls, OneMore, StandsBehind}

-- the server's error is an answer, where the client can still be used
abbrev pub error_as_answer : ClientError → Bool → Result Answer ClientError
error_as_answer (client.RemoteError e) false = Ok (answer.Remote e)
error_as_answer e broken = Err e

-- the name that an answer tells again
abbrev pub request_name : Request → Option (List ℕ)
request_name (request.Prepare name query types) = name
request_name q = None

abbrev pub same : Answer → Answer
same a = a

-- ---- an answer

-- A client that stood for some requests stands for this one besides, with this answer of its own
-- segment, and all that was written is flushed.
pub record AsksRequest (config : Config) (nonce : List ℕ) (ts : List Made) (read wrote : List ℕ)
    (q : Request) (a : Answer) (old now : Line) (after : Client) : Type 0 where
  pub taken : List ℕ
  pub sent : List ℕ
  pub moved : MovesLine old now taken sent
  pub flushed : IsFlushed now
  pub stands : OneMore config nonce ts q (IsAnswered q a) (read ++ taken) (wrote ++ sent)
      after now.buffer

-- Whatever was done over the client before: from its buffer and what was read for the request, by what
-- it knew, the segment of this answer was taken, and what that sends was sent.
pub record AnswerCame (q : Request) (a : Answer) (before : Client) (old : Line) (after : Client)
    (now : Line) : Type 0 where
  pub taken : List ℕ
  pub sent : List ℕ
  pub moved : MovesLine old now taken sent
  pub segment : Does (IsAnswered q a) before (old.buffer ++ taken) sent after now.buffer

-- So does one that stood for any.
abbrev pub AddsAskedRequest : Request → Answer → Client → Line → Client → Line → Type 0
AddsAskedRequest q a before old after now =
    (config : Config) (nonce : List ℕ) (ts : List Made) (read wrote : List ℕ) →
    StandsForCalls config nonce ts read wrote before old.buffer →
    AsksRequest config nonce ts read wrote q a old now after

-- ---- an error

-- Why an error ended the request: it is no answer, and as the call's answer it has its reason in
-- what was read for the request and sent, and in what the link's calls did meanwhile.
pub record IsReason (q : Request) (before : Client) (old : Line) (after : Client) (now : Line)
    (broken : Bool) (e : ClientError) : Type 0 where
  pub no_answer : error_as_answer e broken ≡ Err e
  pub taken : List ℕ
  pub sent : List ℕ
  pub moved : MovesLine old now taken sent
  pub comes : Comes same (Pause old now) q before (old.buffer ++ taken) sent after now.buffer
      (Err e) broken

-- The error has its reason. A client that stood for some requests stands behind this one by it: for
-- the request too, or for a front of its segment, or for none more where it has no encoding.
pub record FailsRequest (q : Request) (before : Client) (old : Line) (after : Client) (now : Line)
    (broken : Bool) (e : ClientError) : Type 0 where
  pub reason : IsReason q before old after now broken e
  pub stands : (config : Config) (nonce : List ℕ) (ts : List Made) (read wrote : List ℕ)
      → StandsForCalls config nonce ts read wrote before old.buffer
      → (taken sent : List ℕ) × MovesLine old now taken sent × (broken ≡ false → IsFlushed now)
      × StandsBehind same config nonce ts q
      (read ++ taken) (wrote ++ sent) after now.buffer (Err e) broken

-- So it ends; or memory was wanting to keep the name that the answer tells again, and nothing was
-- done.
pub data FailsToAsk (q : Request) (before : Client) (old : Line) (after : Client) (now : Line)
    (broken : Bool) : ClientError → Type 0 where
  failed : (e : ClientError) → FailsRequest q before old after now broken e →
      FailsToAsk q before old after now broken e
  wants : (name : List ℕ) → request_name q ≡ Some name → after ≡ before → now ≡ old
      → broken ≡ false →
      FailsToAsk q before old after now broken client.OutOfMemory

-- ---- either

-- a request was asked
abbrev pub Asks : Request → Client → Line → Client → Line → Bool → Result Answer ClientError →
    Type 0
Asks q before old after now broken (Ok a) =
    AddsAskedRequest q a before old after now × (broken ≡ false)
Asks q before old after now broken (Err e) = FailsToAsk q before old after now broken e

-- ---- how its call ends

-- behind these errors messages are passed over: the server's, and in a simple query one of a message
-- without place
abbrev pub passes_for : Request → ClientError → Bool
passes_for (request.Simple sql) = passes
passes_for q = is_remote

-- What is flushed behind the request, and where the link's end is met.
pub record EndsRequest (q : Request) (old : Line) (after : Client) (now : Line) (broken : Bool)
    (result : Result Answer ClientError) : Type 0 where
  -- behind any answer but IoError no call of the link failed, and all that was written is flushed; or
  -- memory was wanting, and nothing was done
  pub well : EndedWell old now ⊎ ((result ≡ Err client.IoError)
      ⊎ ((result ≡ Err client.OutOfMemory) × (now ≡ old)))
  -- the link's end was answered at most once, where a message was awaited and all was flushed,
  pub halts : Halts after (length now.tape.wrote) old now
  -- and then it is the answer, or the error behind which messages were passed over
  pub at_end : AtEnd old now (IsHalted (passes_for q) result broken)
