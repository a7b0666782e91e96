-- Where an answer leaves a client.
use Rattle.std.specs.Prelude.{Result, Ok, Err}
use Rattle.pgw_backend.specs.declared.client_error.PgWireClientError.{PgWireClientError as ClientError}
use Rattle.pgw_backend.specs.declared.client_error.PgWireClientError.TheVariants as client
use Rattle.pgw_dialogue.specs.declared.phase.DialoguePhase.{DialoguePhase}
use Rattle.pgw_dialogue.specs.declared.phase.DialoguePhase.TheVariants as phase
use Rattle.pgw_client_push.specs.declared.state.State.{State}
use Rattle.pgw_client_push.specs.declared.state.State.TheVariants as state

abbrev pub push_state_behind : Result DialoguePhase ClientError → State
push_state_behind (Ok phase.Waiting) = state.Open
push_state_behind (Ok phase.Ready) = state.Open
push_state_behind (Ok phase.Done) = state.Idle
push_state_behind (Err client.OutOfMemory) = state.Starved
push_state_behind (Err e) = state.Refused
