-- What is printed of the proxy of a relay script: what was passed on to each side, and the record.
use Rattle.std.specs.Prelude.{◌≡◌, ◌⊎◌, ◌≤◌, ◌+◌, ◌*◌, ℕ, List, [], ◌++◌, length, codes}
use Rattle.std.specs.Prelude.{Option, Some, None}
use Rattle.pgw_link.specs.Tape.{Tape, new_tape}
use Rattle.pgw_link.specs.declared.memory.MemoryLink.{MemoryLink}
use Rattle.pgw_link.specs.Memory.{Making, memory_tape, memory_left, faults_of, making_of}
use Rattle.pgw_proxy.specs.declared.recorded.Side.{Side}
use Rattle.pgw_proxy.specs.declared.fault.ProxyFault.{ProxyFault}
use Rattle.pgw_proxy.specs.declared.fault.ProxyFault.TheVariants as fault
use Rattle.pgw_proxy.specs.declared.run.ProxyRun.{ProxyRun}
use Rattle.pgw_proxy.specs.Run.{Span, Relays}
use Rattle.pgw_prog_script.specs.declared.relay_script.RelayScript.{RelayScript}
use Rattle.pgw_prog.specs.declared.printed.Printed.{Printed}
use Rattle.pgw_prog.specs.Held.{InCuts, Says}
use Rattle.pgw_prog_sessions.specs.Pieces.{in_hex, line_end}

-- a word, and bytes
abbrev pub bytes_line : List ℕ → List ℕ → List ℕ
bytes_line word bytes = word ++ in_hex bytes ++ line_end

unfoldable pub fault_name : ProxyFault → List ℕ
fault_name (fault.Client e) = codes "Client"
fault_name (fault.Server e) = codes "Server"
fault_name fault.Negotiation = codes "Negotiation"
fault_name fault.TlsAccepted = codes "TlsAccepted"
fault_name fault.ClientIo = codes "ClientIo"
fault_name fault.ServerIo = codes "ServerIo"
fault_name fault.Stopped = codes "Stopped"
fault_name fault.OutOfMemory = codes "OutOfMemory"

-- error NAME, where the proxy stopped for a fault
unfoldable pub fault_line : Option ProxyFault → List ℕ
fault_line None = []
fault_line (Some f) = codes "error " ++ fault_name f ++ line_end

-- to-server HEX, to-client HEX, record HEX
unfoldable pub relay_text : List ℕ → List ℕ → ProxyRun → List ℕ
relay_text to_server to_client run =
    bytes_line (codes "to-server ") to_server ++ bytes_line (codes "to-client ") to_client
    ++ bytes_line (codes "record ") run.tape ++ fault_line run.fault

abbrev pub relay_status : Option ProxyFault → ℕ
relay_status None = 0
relay_status (Some f) = 1

-- ---- the run

-- a link in memory to a side that sends these bytes
abbrev pub making_for : List ℕ → ℕ → Making
making_for bytes cut = record { server = bytes; cut = cut; reads = []; writes = [] }

-- none of its calls is to fail
abbrev pub IsFaultless : MemoryLink → Type 0
IsFaultless link = ((making_of link).reads ≡ []) × ((making_of link).writes ≡ [])

-- no call of it was made yet
pub record IsNewLink (link : MemoryLink) : Type 0 where
  pub faultless : IsFaultless link
  pub fresh : memory_tape link ≡ new_tape
  pub left : memory_left link ≡ (making_of link).server
  pub calm : faults_of link ≡ 0

-- none failed, and none moved more bytes than the cut
pub record LinkWentWell (link : MemoryLink) : Type 0 where
  pub calm : faults_of link ≡ 0
  pub taken : length (making_of link).server
      ≤ length (memory_left link) + (making_of link).cut * (memory_tape link).reads
  pub written : length (memory_tape link).wrote ≤ (making_of link).cut * (memory_tape link).writes

-- it was new, tells this afterwards, has this to come, and no call of it failed
abbrev pub side_span : List ℕ → Tape → List ℕ → Span
side_span bytes after left =
    record { old = new_tape; new = after; was = Some bytes; is = Some left; before = 0; now = 0 }

-- A proxy between two new links in memory, to a client and to a server, was run in these turns; no call moved more bytes
-- than its link's cut.
pub record Relayed (turns : List Side) (to_client_made to_server_made : Making)
    (to_server to_client : List ℕ) (run : ProxyRun) : Type 0 where
  pub client : Tape
  pub client_left : List ℕ
  pub server : Tape
  pub server_left : List ℕ
  pub relays : Relays turns (side_span to_client_made.server client client_left)
      (side_span to_server_made.server server server_left) (Unit {0}) (Unit {0}) run
  pub to_client_is : to_client ≡ client.wrote
  pub to_server_is : to_server ≡ server.wrote
  pub client_cut : InCuts to_client_made client
  pub server_cut : InCuts to_server_made server

-- the text of such a run
abbrev pub PrintsRelayRun : List Side → Making → Making → Printed → Type 0
PrintsRelayRun turns client server p =
    (to_server : List ℕ) × (to_client : List ℕ) × (run : ProxyRun)
    × Relayed turns client server to_server to_client run
    × Says p (relay_text to_server to_client run) (relay_status run.fault)

abbrev pub PrintsRelay : RelayScript → Printed → Type 0
PrintsRelay s p = PrintsRelayRun s.turns (making_for s.client s.cut) (making_for s.server s.cut) p

-- memory ran out, or that text is written, with its status
abbrev pub PrintsRelayText : RelayScript → List ℕ → List ℕ → ℕ → Type 0
PrintsRelayText s before now status =
    (status ≡ 4)
    ⊎ ((to_server : List ℕ) × (to_client : List ℕ) × (run : ProxyRun)
    × Relayed s.turns (making_for s.client s.cut) (making_for s.server s.cut) to_server to_client
    run
    × (status ≡ relay_status run.fault)
    × (now ≡ before ++ relay_text to_server to_client run))
