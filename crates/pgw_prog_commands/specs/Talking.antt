-- A client, as what queries are asked of.
use Rattle.std.specs.Prelude.{ℕ, ◌-◌, length}
use Rattle.pgw_link.specs.Tape.{Tape}
use Rattle.pgw_client_calls.specs.State.{ClientState}
use Rattle.pgw_prog_output.specs.Lines.{ServerLine}

-- what it tells of itself and of the bytes between it and its server, by what its link tells
abbrev pub line_of_client : {X : Type 0} → (X → Tape) → (X → ℕ) → ClientState X → ServerLine
line_of_client tape faults c = record {
  came = (tape c.link).took;
  buffer = c.buffer;
  sent = (tape c.link).wrote;
  version = (c.known).protocol_version;
  left = c.limit - c.read;
  ended = length (tape c.link).ended;
  faults = faults c.link;
  broken = c.broken;
}
