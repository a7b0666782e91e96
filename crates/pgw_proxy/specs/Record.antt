-- What a record holds: each message with its side, as it was spelled.
use Rattle.std.specs.Prelude.{ℕ, List, [], ◌∷◌, ◌++◌, length}
use Rattle.std.specs.List.{flat_map}
use Rattle.pgw_wire.specs.Writing.{u32}
use Rattle.pgw_proxy.specs.declared.recorded.Side.{Side}
use Rattle.pgw_proxy.specs.declared.recorded.Side.TheVariants.{Client, Server}
use Rattle.pgw_proxy.specs.declared.recorded.Recorded.{Recorded}
use Rattle.pgw_proxy.specs.declared.recorded.Recorded.TheVariants as recorded

-- a message that was passed on, and its bytes as they came
pub record RelayMessage : Type 0 where
  pub message : Recorded
  pub bytes : List ℕ

abbrev pub passed : Recorded → List ℕ → RelayMessage
passed m bytes = record { message = m; bytes = bytes }

-- whose message it is
abbrev pub side_of : Recorded → Side
side_of (recorded.Frontend m) = Client
side_of (recorded.Backend m) = Server

-- the message's bytes, where it is that side's
abbrev pub of_side : Side → Recorded → List ℕ → List ℕ
of_side Client (recorded.Frontend m) bytes = bytes
of_side Server (recorded.Backend m) bytes = bytes
of_side side m bytes = []

-- the bytes of a side's messages, one behind the other
abbrev pub side_bytes : Side → List RelayMessage → List ℕ
side_bytes side ms = flat_map (λ m. of_side side m.message m.bytes) ms

-- ---- the record

abbrev pub direction : Side → ℕ
direction Client = 0
direction Server = 1

-- the side, how many bytes the message has, and these bytes
unfoldable pub relay_entry : Side → List ℕ → List ℕ
relay_entry side bytes = (direction side ∷ u32 (length bytes)) ++ bytes

abbrev pub record_of : List RelayMessage → List ℕ
record_of ms = flat_map (λ m. relay_entry (side_of m.message) m.bytes) ms
