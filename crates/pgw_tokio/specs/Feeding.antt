-- What a client does that is given bytes, as an engine has it.
use Rattle.std.specs.Prelude.{◌≡◌, ℕ, List, [], Option, Result}
use Rattle.pgw_backend.specs.declared.client_error.PgWireClientError.{PgWireClientError as ClientError}
use Rattle.pgw_dialogue.specs.declared.phase.DialoguePhase.{DialoguePhase}
use Rattle.pgw_tokio_moving.specs.declared.engine.Turn.{Turn}
use Rattle.pgw_client_push.specs.declared.client.PushClient.{PushClient}
use Rattle.pgw_client_push.specs.Calls.{IsLeft, TakesPiece}
use Rattle.pgw_client_push.specs.Told.{asked_of}
use Rattle.pgw_tokio.specs.First.{refusal_of, turn_of}

-- it took the bytes, put those out and answered, which is the turn and the refusal
pub record FeedsClient (old new : PushClient) (refusal : Option ClientError) (given put : List ℕ)
    (turn : Turn) : Type 0 where
  pub answer : Result DialoguePhase ClientError
  pub takes : TakesPiece old new given [] put answer
  pub left : IsLeft new answer
  pub asked : asked_of new ≡ asked_of old
  pub turned : turn ≡ turn_of answer
  pub refused : refusal ≡ refusal_of answer
