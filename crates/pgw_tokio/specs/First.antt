-- What a dialogue's answers make of an engine.
use Rattle.std.specs.Prelude.{ℕ, zero, suc, Option, Some, None, Result, Ok, Err}
use Rattle.pgw_backend.specs.declared.client_error.PgWireClientError.{PgWireClientError as ClientError}
use Rattle.pgw_backend.specs.declared.client_error.PgWireClientError.TheVariants as client
use Rattle.pgw_dialogue.specs.declared.phase.DialoguePhase.{DialoguePhase}
use Rattle.pgw_dialogue.specs.declared.phase.DialoguePhase.TheVariants as phase
use Rattle.pgw_tokio_moving.specs.declared.engine.Turn.{Turn}
use Rattle.pgw_tokio_moving.specs.declared.engine.Turn.TheVariants as turn

-- what an answer makes of the turn and the refusal
abbrev pub turn_of : Result DialoguePhase ClientError → Turn
turn_of (Ok phase.Waiting) = turn.More
turn_of (Ok phase.Ready) = turn.More
turn_of (Ok phase.Done) = turn.Over
turn_of (Err e) = turn.Over

abbrev pub refusal_of : Result DialoguePhase ClientError → Option ClientError
refusal_of (Ok p) = None
refusal_of (Err e) = Some e

-- a session that may read nothing is over as soon as its first message is put out
abbrev pub refused_at : ℕ → Option ClientError
refused_at zero = Some client.ReadLimit
refused_at (suc limit) = None

abbrev pub first_turn : ℕ → Turn
first_turn zero = turn.Over
first_turn (suc limit) = turn.More
