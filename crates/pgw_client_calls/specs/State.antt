-- A client, as its callers see it.
use Rattle.std.specs.Prelude.{ℕ, Bool, List}
use Rattle.pgw_link.specs.Tape.{Tape}
use Rattle.pgw_handlers.specs.Client.{Client}
use Rattle.pgw_client_calls.specs.Line.{Line, line}

-- its link, what it knows of its connection, whether an earlier error left it unusable, the bytes that were read and not
-- taken yet, how many were read, and how many may be
pub record ClientState (X : Type 0) : Type 0 where
  pub link : X
  pub known : Client
  pub broken : Bool
  pub buffer : List ℕ
  pub read : ℕ
  pub limit : ℕ

module _ {X : Type 0} where
  abbrev pub link_of : ClientState X → X
  link_of c = c.link

  abbrev pub known_by : ClientState X → Client
  known_by c = c.known

  abbrev pub is_broken : ClientState X → Bool
  is_broken c = c.broken

  -- its bytes, and what its link tells
  abbrev pub line_of : (X → Tape) → (X → ℕ) → ClientState X → Line
  line_of tape faults c = line (tape c.link) (faults c.link) c.buffer c.read c.limit
