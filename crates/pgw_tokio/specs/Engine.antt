-- A dialogue as an engine.
use Rattle.std.specs.Prelude.{◌≡◌, ◌⊎◌, ℕ, ◌-◌, List, [], length, Some, None, Result, Err, IsSomeAnd}
use Rattle.pgw_backend.specs.declared.client_error.PgWireClientError.{PgWireClientError as ClientError}
use Rattle.pgw_backend.specs.declared.client_error.PgWireClientError.TheVariants as client
use Rattle.pgw_session.specs.Input.{Input}
use Rattle.pgw_dialogue.specs.declared.dialogue.Dialogue.{Dialogue}
use Rattle.pgw_dialogue.specs.declared.phase.DialoguePhase.{DialoguePhase}
use Rattle.pgw_dialogue.specs.Dialogue.{Awaits, IsBehind, IsDone, IsStarved, Stands, Takes}
use Rattle.pgw_tokio_moving.specs.declared.engine.Engine as Engine
use Rattle.pgw_tokio_moving.specs.declared.exchange.Stop.{Stop}
use Rattle.pgw_tokio_moving.specs.declared.exchange.Stop.TheVariants as stop
use Rattle.pgw_tokio_moving.specs.declared.engine.Turn.{Turn}
use Rattle.pgw_tokio_moving.specs.declared.engine.Turn.TheVariants.{More, Over}
use Rattle.pgw_tokio.specs.declared.engine.SessionEngine.{SessionEngine}
use Rattle.pgw_tokio.specs.First.{refusal_of, turn_of}

-- it takes bytes, has so much room, and stands for some bytes
pub record Waits (room : ℕ) (d : Dialogue) : Type 0 where
  pub awaits : Awaits d
  pub room_is : room ≡ d.room
  pub input : Input
  pub limit : ℕ
  pub given : List ℕ
  pub put : List ℕ
  pub stands : Stands input limit d given put

-- what holds of it behind an answer: it waits; or it was refused, or its transcript is whole
abbrev pub StandsAs : SessionEngine → Turn → Type 0
StandsAs e More = (e.refusal ≡ None) × IsSomeAnd e.dialogue (Waits e.room)
StandsAs e Over = e.refusal ≡ None → IsSomeAnd e.dialogue IsDone

-- its dialogue took the bytes, put those out and answered, which is the turn and the refusal
pub record Feeds (old : SessionEngine) (given put : List ℕ) (turn : Turn) (new : SessionEngine) :
    Type 0 where
  pub before : Dialogue
  pub after : Dialogue
  pub was : old.dialogue ≡ Some before
  pub is : new.dialogue ≡ Some after
  pub answer : Result DialoguePhase ClientError
  pub takes : Takes before after given [] put answer
  pub behind : IsBehind after answer
  pub starved : IsStarved after → IsStarved before ⊎ (answer ≡ Err client.OutOfMemory)
  pub turned : turn ≡ turn_of answer
  pub refused : new.refusal ≡ refusal_of answer
  pub room : new.room ≡ old.room - length given

-- the members of the engine
abbrev pub session_members : Engine.Ghosts SessionEngine
session_members = record { takes = Feeds; stands = StandsAs; room = λ e. e.room }

-- what holds of it where no more bytes are moved
abbrev pub StreamStandsBehind : SessionEngine → Stop → Type 0
StreamStandsBehind e stop.Over = StandsAs e Over
StreamStandsBehind e stop.End = StandsAs e More
StreamStandsBehind e (stop.Fault f) = Unit {0}
