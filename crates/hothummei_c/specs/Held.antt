-- The dialogue that one stands for which owns what it was made for.
use Rattle.std.specs.Prelude.{List, ℕ, Result, Ok, Err}
use Rattle.pgw_backend.specs.declared.client_error.PgWireClientError.{PgWireClientError as ClientError}
use Rattle.pgw_dialogue.specs.declared.dialogue.Dialogue.{Dialogue}
use Rattle.pgw_dialogue.specs.declared.phase.State.{State}
use Rattle.pgw_dialogue.specs.declared.phase.State.TheVariants as state
use Rattle.pgw_dialogue.specs.Dialogue.{Starts}
use Rattle.pgw_session.specs.Input.{Input}
use Rattle.hothummei_c.specs.declared.held.Held.{Held}
use Rattle.hothummei_c.specs.declared.held.HeldState.{HeldState}
use Rattle.hothummei_c.specs.declared.held.HeldState.TheVariants as held

abbrev pub handle_state : HeldState → State
handle_state held.Going = state.Going
handle_state held.Done = state.Done
handle_state held.Refused = state.Refused
handle_state held.Starved = state.Starved

-- where it lies says nothing
abbrev pub dialogue_of : Held → Dialogue
dialogue_of h = record {
  alloc = h.alloc;
  config = record { ref_ptr = (0, 0); now = h.config };
  requests = record { ref_ptr = (0, 0); now = h.requests };
  nonce = h.nonce;
  notes = h.notes;
  inbox = h.inbox;
  room = h.room;
  state = handle_state h.state;
}

abbrev pub HeldStarts : Input → ℕ → List ℕ → List ℕ → Result Held ClientError → Type 0
HeldStarts input limit old new (Ok h) = Starts input limit old new (Ok (dialogue_of h))
HeldStarts input limit old new (Err e) = Starts input limit old new (Err e)
