-- What a proxy stands for.
use Rattle.std.specs.Prelude.{◌≡◌, ℕ, true, false, List, ◌++◌, Result, Ok, Err}
use Rattle.pgw_proxy.specs.declared.recorded.Side.{Side}
use Rattle.pgw_proxy.specs.declared.recorded.Side.TheVariants.{Client, Server}
use Rattle.pgw_proxy.specs.declared.fault.ProxyFault.{ProxyFault}
use Rattle.pgw_proxy.specs.declared.proxy.Proxy.{Proxy}
use Rattle.pgw_proxy.specs.Record.{RelayMessage, side_bytes, record_of}
use Rattle.pgw_proxy.specs.Proxied.{SideEvent, SideEnding, SideTakes, ProxyPlace, proxy_place, side_buffer, RelayCourse, Going}
use Rattle.pgw_proxy.specs.Proxied.{Stopped, side_course}
use Rattle.pgw_proxy.specs.Proxied.{Proxied, relay_answer}

-- a fault was answered
abbrev pub IsRelayOver : Proxy → Type 0
IsRelayOver proxy = proxy.over ≡ true

abbrev pub ProxyGoesOn : Proxy → Type 0
ProxyGoesOn proxy = proxy.over ≡ false

abbrev pub place_in_proxy : Proxy → ProxyPlace
place_in_proxy proxy = proxy_place proxy.context proxy.client.items proxy.server.items

abbrev pub IsRelayAt : Proxy → RelayCourse → Type 0
IsRelayAt proxy (Going p) = ProxyGoesOn proxy × (p ≡ place_in_proxy proxy)
IsRelayAt proxy (Stopped why) = IsRelayOver proxy

-- These pieces were given to the proxy, and these bytes were passed on to each side and recorded:
-- those of the messages of the other side, and all of them.
pub record RelayStands (proxy : Proxy) (events : List SideEvent)
    (to_server to_client tape : List ℕ) : Type 0 where
  pub messages : List RelayMessage
  pub course : RelayCourse
  pub proxied : Proxied events messages course
  pub at : IsRelayAt proxy course
  pub server_got : to_server ≡ side_bytes Client messages
  pub client_got : to_client ≡ side_bytes Server messages
  pub recorded : tape ≡ record_of messages

-- what the place tells to which the events lead
abbrev pub told_at : RelayCourse → Result (Unit {0}) ProxyFault
told_at (Going p) = Ok tt
told_at (Stopped why) = Err why

-- as told_at, where a call has just led there, and its answer says so, of a proxy that went on.
pub record ProxyArrives (old new : Proxy) (events : List SideEvent)
    (to_server to_client tape : List ℕ)
    (answer : Result (Unit {0}) ProxyFault) : Type 0 where
  pub stands : RelayStands new events to_server to_client tape
  pub says : ProxyGoesOn old → answer ≡ told_at stands.course

-- A piece of a side leads a proxy that goes on from where it is to where it is then: what is
-- passed on and recorded, and what is answered.
pub record Forwards (side : Side) (old new : Proxy)
    (piece out_old out_new tape_old tape_new : List ℕ)
    (answer : Result (Unit {0}) ProxyFault) : Type 0 where
  pub messages : List RelayMessage
  pub there : SideEnding
  pub takes : SideTakes side old.context (side_buffer side (place_in_proxy old) ++ piece) messages
      there
  pub at : IsRelayAt new (side_course side (place_in_proxy old) there)
  pub out : out_new ≡ out_old ++ side_bytes side messages
  pub tape : tape_new ≡ tape_old ++ record_of messages
  pub says : answer ≡ relay_answer there
