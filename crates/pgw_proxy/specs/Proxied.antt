-- Which messages of a list of events become whole, in order, up to the first fault.
use Rattle.std.specs.Prelude.{◌≡◌, ℕ, List, [], ◌∷◌, ◌++◌, Some, None, Result, Ok, Err}
use Rattle.std.specs.List.{flat_map}
use Rattle.pgw_proxy.specs.declared.context.Context.{Context}
use Rattle.pgw_proxy.specs.declared.recorded.Side.{Side}
use Rattle.pgw_proxy.specs.declared.recorded.Side.TheVariants.{Client, Server}
use Rattle.pgw_proxy.specs.declared.recorded.Recorded.{Recorded}
use Rattle.pgw_proxy.specs.declared.fault.ProxyFault.{ProxyFault}
use Rattle.pgw_proxy.specs.declared.fault.ProxyFault.TheVariants as fault
use Rattle.pgw_proxy.specs.Context.{first}
use Rattle.pgw_proxy.specs.Fronts.{side_front}
use Rattle.pgw_proxy.specs.Record.{RelayMessage, passed}

-- a piece that came from a side
abbrev pub SideEvent : Type 0
SideEvent = Side × List ℕ

-- ---- one side's bytes

-- where they lead: the rest waits in this context, or there was a fault
pub data SideEnding : Type 0 where
  Waits : (context : Context) → (rest : List ℕ) → SideEnding
  Fails : (why : ProxyFault) → SideEnding

-- In this context a side's bytes give these messages, and lead there: nothing whole stands at
-- their front; or a fault; or memory runs out, at any time; or a message is taken and the bytes
-- behind it lead on.
pub data SideTakes (side : Side) : Context → List ℕ → List RelayMessage → SideEnding
    → Type 0 where
  waits : (c : Context) → (bytes : List ℕ) → side_front side c bytes ≡ Ok None
      → SideTakes side c bytes [] (Waits c bytes)
  fails : (c : Context) → (bytes : List ℕ) → (why : ProxyFault)
      → side_front side c bytes ≡ Err why
      → SideTakes side c bytes [] (Fails why)
  breaks : (c : Context) → (bytes : List ℕ) → SideTakes side c bytes [] (Fails fault.OutOfMemory)
  passes : (c next : Context) → (bytes g rest : List ℕ) → (m : Recorded)
      → (more : List RelayMessage)
      → (there : SideEnding) → bytes ≡ g ++ rest
      → side_front side c bytes ≡ Ok (Some (m, (rest, next)))
      → SideTakes side next rest more there → SideTakes side c bytes (passed m g ∷ more) there

-- ---- both sides

-- the context, and what waits of each side
pub record ProxyPlace : Type 0 where
  pub context : Context
  pub client : List ℕ
  pub server : List ℕ

abbrev pub proxy_place : Context → List ℕ → List ℕ → ProxyPlace
proxy_place c client server = record { context = c; client = client; server = server }

abbrev pub side_buffer : Side → ProxyPlace → List ℕ
side_buffer Client p = p.client
side_buffer Server p = p.server

-- where the events lead: on, or to the first fault
pub data RelayCourse : Type 0 where
  Going : (at : ProxyPlace) → RelayCourse
  Stopped : (why : ProxyFault) → RelayCourse

-- one side's bytes led there, and the other's stay
abbrev pub side_course : Side → ProxyPlace → SideEnding → RelayCourse
side_course Client p (Waits c rest) = Going (proxy_place c rest p.server)
side_course Server p (Waits c rest) = Going (proxy_place c p.client rest)
side_course side p (Fails why) = Stopped why

-- The events give these messages, and lead there. A side's bytes are looked at in its own events
-- alone: a server's byte that came before the request that it answers is looked at again with the
-- server's next piece.
pub data Proxied : List SideEvent → List RelayMessage → RelayCourse → Type 0 where
  begins : Proxied [] [] (Going (proxy_place first [] []))
  goes : (events : List SideEvent) → (ms more : List RelayMessage) → (p : ProxyPlace)
      → (side : Side)
      → (piece : List ℕ) → (there : SideEnding) → Proxied events ms (Going p)
      → SideTakes side p.context (side_buffer side p ++ piece) more there
      → Proxied (events ++ (side, piece) ∷ []) (ms ++ more) (side_course side p there)
  stays : (events : List SideEvent) → (ms : List RelayMessage) → (why : ProxyFault)
      → (side : Side)
      → (piece : List ℕ) → Proxied events ms (Stopped why)
      → Proxied (events ++ (side, piece) ∷ []) ms (Stopped why)

-- what came from a side
abbrev pub piece_of : Side → SideEvent → List ℕ
piece_of Client (Client, piece) = piece
piece_of Server (Server, piece) = piece
piece_of side event = []

abbrev pub side_input : Side → List SideEvent → List ℕ
side_input side events = flat_map (piece_of side) events

-- what is answered where the bytes lead
abbrev pub relay_answer : SideEnding → Result (Unit {0}) ProxyFault
relay_answer (Waits c rest) = Ok tt
relay_answer (Fails why) = Err why
