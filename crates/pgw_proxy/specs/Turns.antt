-- A run of a proxy between two links, turn by turn, over what these tell.
use Rattle.std.specs.Prelude.{◌≡◌, ◌≢◌, ◌<◌, ◌≤◌, ◌+◌, ℕ, List, [], ◌∷◌, ◌++◌, length}
use Rattle.std.specs.Prelude.{Option, Some, None, Result, Ok, Err}
use Rattle.pgw_types.specs.Counts.{Rose}
use Rattle.pgw_link.specs.Tape.{Tape, Took, LinkFails}
use Rattle.pgw_link.specs.Sending.{Wrote, WroteSome}
use Rattle.pgw_proxy.specs.declared.recorded.Side.{Side}
use Rattle.pgw_proxy.specs.declared.recorded.Side.TheVariants.{Client, Server}
use Rattle.pgw_proxy.specs.declared.fault.ProxyFault.{ProxyFault}
use Rattle.pgw_proxy.specs.declared.fault.ProxyFault.TheVariants as fault
use Rattle.pgw_proxy.specs.Context.{first}
use Rattle.pgw_proxy.specs.Record.{RelayMessage, side_bytes}
use Rattle.pgw_proxy.specs.Proxied.{SideEvent, SideTakes, SideEnding, ProxyPlace, proxy_place, side_buffer, RelayCourse, Going}
use Rattle.pgw_proxy.specs.Proxied.{side_course, relay_answer}

-- what both links tell, and how many of their calls failed
pub record Links : Type 0 where
  pub client : Tape
  pub server : Tape
  pub client_faults : ℕ
  pub server_faults : ℕ

abbrev pub side_tape : Side → Links → Tape
side_tape Client links = links.client
side_tape Server links = links.server

abbrev pub side_faults : Side → Links → ℕ
side_faults Client links = links.client_faults
side_faults Server links = links.server_faults

abbrev pub other : Side → Side
other Client = Server
other Server = Client

-- the fault that a failed call of the link to a side is
abbrev pub io_of : Side → ProxyFault
io_of Client = fault.ClientIo
io_of Server = fault.ServerIo

abbrev pub relay_fault : Result (Unit {0}) ProxyFault → Option ProxyFault
relay_fault (Ok done) = None
relay_fault (Err f) = Some f

-- want of memory goes before a link's fault
abbrev pub graver : Result (Unit {0}) ProxyFault → ProxyFault → ProxyFault
graver (Err fault.OutOfMemory) f = fault.OutOfMemory
graver answer f = f

-- ---- single calls

-- the link to that side tells what it told before
abbrev pub Still : Side → Links → Links → Type 0
Still side old new =
    (side_tape side new ≡ side_tape side old) × (side_faults side new ≡ side_faults side old)

-- it was read once, and gave these bytes, or none at its end
abbrev pub Gave : Side → Links → Links → List ℕ → Type 0
Gave side old new bytes = Took (side_tape side old) (side_tape side new) bytes
    × (side_faults side new ≡ side_faults side old)

-- it was read once, and the read failed
abbrev pub SideReadFails : Side → Links → Links → Type 0
SideReadFails side old new =
    LinkFails (side_tape side old) (side_tape side new) ((side_tape side old).reads + 1)
    (side_tape side old).writes
    × Rose (side_faults side old) (side_faults side new)

-- these bytes were written to it, all of them, and flushed; no call where there are none
abbrev pub WritesToSide : List ℕ → Tape → Tape → Type 0
WritesToSide [] old new = new ≡ old
WritesToSide (b ∷ bs) old new = Wrote old new (b ∷ bs)

abbrev pub Got : Side → Links → Links → List ℕ → Type 0
Got side old new bytes = WritesToSide bytes (side_tape side old) (side_tape side new)
    × (side_faults side new ≡ side_faults side old)

-- a front of them was, and a call failed
abbrev pub GotSome : Side → Links → Links → List ℕ → Type 0
GotSome side old new bytes =
    (bytes ≢ []) × WroteSome (side_tape side old) (side_tape side new) bytes
    × Rose (side_faults side old) (side_faults side new)

-- ---- one turn

-- A turn of a side, of a proxy that goes on from this place: the link to that side is read once. What came is an event;
-- the messages that are whole then are written to the other side, and lead there; or there is a fault.
pub data Turn (side : Side) (p : ProxyPlace) (old new : Links)
    : List SideEvent → List RelayMessage → RelayCourse → Option ProxyFault → Type 0 where
  unread : SideReadFails side old new → Still (other side) old new
      → Turn side p old new [] [] (Going p) (Some (io_of side))
  ended : Gave side old new [] → Still (other side) old new
      → Turn side p old new [] [] (Going p) None
  sent : (piece : List ℕ) → (ms : List RelayMessage) → (there : SideEnding) → 0 < length piece
      → length piece ≤ 8192 → Gave side old new piece
      → SideTakes side p.context (side_buffer side p ++ piece) ms there
      → Got (other side) old new (side_bytes side ms)
      → Turn side p old new ((side, piece) ∷ []) ms (side_course side p there)
      (relay_fault (relay_answer there))
  unsent : (piece : List ℕ) → (ms : List RelayMessage) → (there : SideEnding) → 0 < length piece
      → length piece ≤ 8192 → Gave side old new piece
      → SideTakes side p.context (side_buffer side p ++ piece) ms there
      → GotSome (other side) old new (side_bytes side ms)
      → Turn side p old new ((side, piece) ∷ []) ms (side_course side p there)
      (Some (graver (relay_answer there) (io_of (other side))))

-- ---- all turns

-- These turns were made, one behind the other, and none behind a fault: the events, the messages that were passed on,
-- and where they lead.
pub data Turns (start : Links)
    : List Side → List SideEvent → List RelayMessage → RelayCourse → Links → Option ProxyFault
    → Type 0 where
  begins : Turns start [] [] [] (Going (proxy_place first [] [])) start None
  goes_on : (turns : List Side) → (events more : List SideEvent) → (ms others : List RelayMessage)
      → (p : ProxyPlace)
      → (side : Side) → (mid last : Links) → (course : RelayCourse) → (why : Option ProxyFault)
      → Turns start turns events ms (Going p) mid None
      → Turn side p mid last more others course why
      → Turns start (turns ++ side ∷ []) (events ++ more) (ms ++ others) course last why
