-- What a record is read as.
use Rattle.std.specs.Prelude.{◌≡◌, ◌≢◌, ◌+◌, ℕ, List, [], ◌∷◌, length, drop, slice_range, Option}
use Rattle.std.specs.Prelude.{Some, None, Result, Ok, Err}
use Rattle.std.specs.Prelude.{◌==◌, nat_lt, if◌then◌else◌}
use Rattle.pgw_wire.specs.Header.{length_at}
use Rattle.pgw_proxy.specs.declared.context.Context.{Context}
use Rattle.pgw_proxy.specs.declared.recorded.Side.{Side}
use Rattle.pgw_proxy.specs.declared.recorded.Side.TheVariants.{Client, Server}
use Rattle.pgw_proxy.specs.declared.recorded.Recorded.{Recorded}
use Rattle.pgw_proxy.specs.declared.fault.ProxyFault.{ProxyFault}
use Rattle.pgw_proxy.specs.declared.fault.RecordFault.{RecordFault}
use Rattle.pgw_proxy.specs.declared.fault.RecordFault.TheVariants as fault
use Rattle.pgw_proxy.specs.Context.{first}
use Rattle.pgw_proxy.specs.Fronts.{RelayFront, side_front}

-- ---- one record

-- What stands at the front: bytes are missing; or a byte that names no side; or a side, a
-- message's bytes, and the records behind it.
pub data RelayEntry : Type 0 where
  Missing : RelayEntry
  Astray : (direction : ℕ) → RelayEntry
  Holds : (side : Side) → (message rest : List ℕ) → RelayEntry

-- behind the byte that names the side: a length of four bytes, and as many bytes as it says
abbrev pub held_by : Side → List ℕ → RelayEntry
held_by side bytes =
    if nat_lt (length bytes) 4 then Missing
    else (if nat_lt (length bytes) (4 + length_at 0 bytes) then Missing
    else Holds side (slice_range bytes 4 (4 + length_at 0 bytes))
    (drop (4 + length_at 0 bytes) bytes))

unfoldable pub entry_at : List ℕ → RelayEntry
entry_at [] = Missing
entry_at (d ∷ bytes) = if d == 0 then held_by Client bytes
    else (if d == 1 then held_by Server bytes else Astray d)

-- the message that the bytes are, and the context behind it, where they are one and no more
abbrev pub one_of : Result (Option RelayFront) ProxyFault → Option (Recorded × Context)
one_of (Err why) = None
one_of (Ok None) = None
one_of (Ok (Some x)) = if length x.1.0 == 0 then Some (x.0, x.1.1) else None

abbrev pub message_in : Side → Context → List ℕ → Option (Recorded × Context)
message_in side c bytes = one_of (side_front side c bytes)

-- ---- all of them

-- a message before what the others are read as
abbrev pub message_first : Recorded → Result (List Recorded) RecordFault
    → Result (List Recorded) RecordFault
message_first m (Ok ms) = Ok (m ∷ ms)
message_first m (Err f) = Err f

-- In this context, records from this number on are read as these messages, or the first that is
-- faulty decides.
pub data ReadsRelayRecord : Context → ℕ → List ℕ → Result (List Recorded) RecordFault
    → Type 0 where
  ends : (c : Context) → (n : ℕ) → ReadsRelayRecord c n [] (Ok [])
  missing : (c : Context) → (n : ℕ) → (bytes : List ℕ) → bytes ≢ [] → entry_at bytes ≡ Missing
      → ReadsRelayRecord c n bytes (Err (fault.Truncated n))
  astray : (c : Context) → (n : ℕ) → (bytes : List ℕ) → (d : ℕ) → entry_at bytes ≡ Astray d
      → ReadsRelayRecord c n bytes (Err (fault.BadDirection n d))
  garbled : (c : Context) → (n : ℕ) → (bytes g rest : List ℕ) → (side : Side)
      → entry_at bytes ≡ Holds side g rest → message_in side c g ≡ None
      → ReadsRelayRecord c n bytes (Err (fault.BadMessage n))
  reads : (c next : Context) → (n : ℕ) → (bytes g rest : List ℕ) → (side : Side) → (m : Recorded)
      → (others : Result (List Recorded) RecordFault) → entry_at bytes ≡ Holds side g rest
      → message_in side c g ≡ Some (m, next) → ReadsRelayRecord next (n + 1) rest others
      → ReadsRelayRecord c n bytes (message_first m others)

-- a record's answer, but for want of memory
abbrev pub IsRelayReadAs : List ℕ → Result (List Recorded) RecordFault → Type 0
IsRelayReadAs bytes (Err fault.OutOfMemory) = Unit {0}
IsRelayReadAs bytes answer = ReadsRelayRecord first 0 bytes answer
