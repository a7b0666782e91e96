-- What the steps of a run leave. The proofs carry it, and no public clause cites it.
use Rattle.std.specs.Prelude.{◌≡◌, ◌≢◌, ◌≤◌, ◌+◌, ℕ, List, [], ◌∷◌, ◌++◌, take, length}
use Rattle.std.specs.Prelude.{Option, Some, None, Result, Ok, Err}
use Rattle.pgw_link.specs.Tape.{Tape, Took, LinkFails}
use Rattle.pgw_link.specs.Sending.{Wrote, WroteSome}
use Rattle.pgw_proxy.specs.declared.recorded.Side.{Side}
use Rattle.pgw_proxy.specs.declared.recorded.Side.TheVariants.{Client, Server}
use Rattle.pgw_proxy.specs.declared.fault.ProxyFault.{ProxyFault}
use Rattle.pgw_proxy.specs.declared.fault.ProxyFault.TheVariants as fault
use Rattle.pgw_proxy.specs.declared.proxy.Proxy.{Proxy}
use Rattle.pgw_proxy.specs.declared.run.ProxyRun.{ProxyRun}
use Rattle.pgw_proxy.specs.Record.{RelayMessage, side_bytes, record_of}
use Rattle.pgw_proxy.specs.Proxied.{SideEvent, RelayCourse, Going, Proxied, side_input}
use Rattle.pgw_proxy.specs.Stands.{ProxyGoesOn, IsRelayAt, place_in_proxy}
use Rattle.pgw_proxy.specs.Turns.{Links, Turn, Turns, relay_fault, side_faults, io_of, other, side_tape}
use Rattle.pgw_proxy.specs.Run.{Span, HadTurns, RelaysMessages, start_of, relay_links, turns_of}

-- ---- single calls

-- a read gave the front of the buffer, or failed
abbrev pub SideWasRead : Side → Tape → Tape → List ℕ → Result ℕ ProxyFault → Type 0
SideWasRead side old new buffer (Ok n) =
    (n ≤ 8192) × (n ≤ length buffer) × Took old new (take n buffer)
SideWasRead side old new buffer (Err f) =
    (f ≡ io_of side) × LinkFails old new (old.reads + 1) old.writes

-- what was due was written and flushed, where there was something; or a front of it
abbrev pub Delivers : Side → Tape → Tape → List ℕ → Result (Unit {0}) ProxyFault → Type 0
Delivers side old new [] (Ok done) = new ≡ old
Delivers side old new [] (Err f) = ⊥
Delivers side old new (b ∷ bs) (Ok done) = Wrote old new (b ∷ bs)
Delivers side old new due (Err f) = (f ≡ io_of side) × WroteSome old new due

-- ---- a turn

-- both links, by the one that a side's turn reads and the one that it writes to
abbrev pub start_by : Side → Span → Span → Links
start_by Client from to = start_of from to
start_by Server from to = start_of to from

abbrev pub end_by : Side → Span → Span → Links
end_by Client from to = relay_links from to
end_by Server from to = relay_links to from

-- what a turn of a proxy comes to, its record and itself among it
pub record RelayMoves (side : Side) (old new : Proxy) (tape_old tape_new : List ℕ)
    (start last : Links)
    (answer : Result (Unit {0}) ProxyFault) : Type 0 where
  pub events : List SideEvent
  pub messages : List RelayMessage
  pub course : RelayCourse
  pub turn : Turn side (place_in_proxy old) start last events messages course (relay_fault answer)
  pub at : IsRelayAt new course
  pub tape : tape_new ≡ tape_old ++ record_of messages

-- ---- where a run is that goes on

-- the link to a side
pub record Half (side : Side) (start last : Links) (turns : List Side) (events : List SideEvent)
    (messages : List RelayMessage) : Type 0 where
  pub took : (side_tape side last).took ≡ (side_tape side start).took ++ side_input side events
  pub wrote : (side_tape side last).wrote ≡ (side_tape side start).wrote ++ side_bytes
      (other side) messages
  pub flushed : side_bytes (other side) messages ≢ []
      → (side_tape side last).flushed ≡ length (side_tape side last).wrote
  pub calm : side_faults side last ≡ side_faults side start
  pub answers : List ℕ
  pub ended : (side_tape side last).ended ≡ (side_tape side start).ended ++ answers
  pub turns_made : HadTurns (side_tape side start) (side_tape side last) (turns_of side turns)
      (side_input side events)

pub record RelayRuns (turns : List Side) (proxy : Proxy) (tape : List ℕ) (start last : Links) :
    Type 0 where
  pub events : List SideEvent
  pub messages : List RelayMessage
  pub made : Turns start turns events messages (Going (place_in_proxy proxy)) last None
  pub proxied : Proxied events messages (Going (place_in_proxy proxy))
  pub goes_on : ProxyGoesOn proxy
  pub record_is : tape ≡ record_of messages
  pub half : (side : Side) → Half side start last turns events messages

-- ---- where it ends

-- the record is that of the messages that were passed on
abbrev pub RelayStops : List Side → Span → Span → List ℕ → Result (Unit {0}) ProxyFault → Type 0
RelayStops turns client server tape answer =
    (messages : List RelayMessage) × (tape ≡ record_of messages)
    × RelaysMessages turns (start_of client server) (relay_links client server) messages
    (relay_fault answer)

abbrev pub EndsRelayRun : {E : Type 0} → List ℕ → Result (Unit {0}) ProxyFault → Result ProxyRun E
    → Type 0
EndsRelayRun tape stopped (Ok run) =
    (stopped ≢ Err fault.OutOfMemory) × (run.tape ≡ tape) × (run.fault ≡ relay_fault stopped)
EndsRelayRun tape stopped (Err e) = Unit {0}
