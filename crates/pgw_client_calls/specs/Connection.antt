-- What a client holds.
use Rattle.std.specs.Prelude.{ℕ}
use Rattle.pgw_link.specs.Tape.{Tape}
use Rattle.pgw_link.specs.declared.link.Link as Link
use Rattle.pgw_client_calls.specs.declared.connection.Connection.{Connection}
use Rattle.pgw_client_calls.specs.Desk.{client_of}
use Rattle.pgw_client_calls.specs.Line.{Line, line}
use Rattle.pgw_client_calls.specs.State.{ClientState}

module _ {X : Type 0} {L : Link.Ghosts X} where
  abbrev pub line_in : (X → Tape) → (X → ℕ) → Connection X L → Line
  line_in tape faults c = line (tape c.link) (faults c.link) c.inbox c.read c.limit

  -- as its callers see it
  abbrev pub state_of : Connection X L → ClientState X
  state_of c = record {
    link = c.link;
    known = client_of c.desk;
    broken = c.desk.broken;
    buffer = c.inbox;
    read = c.read;
    limit = c.limit;
  }
