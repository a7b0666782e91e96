-- What a proxy between two links comes to, over what these tell.
use Rattle.std.specs.Prelude.{◌≡◌, ◌≢◌, ◌⊎◌, ◌≤◌, ℕ, List, [], ◌∷◌, ◌++◌, Bool, true, false}
use Rattle.std.specs.Prelude.{length, Option, Some, None, Result, Ok, Err}
use Rattle.std.specs.List.{filter}
use Rattle.pgw_types.specs.Counts.{Rose}
use Rattle.pgw_link.specs.Tape.{Tape}
use Rattle.pgw_link.specs.Foresight.{Foreseen, TapeEnds}
use Rattle.pgw_proxy.specs.declared.recorded.Side.{Side}
use Rattle.pgw_proxy.specs.declared.recorded.Side.TheVariants.{Client, Server}
use Rattle.pgw_proxy.specs.declared.fault.ProxyFault.{ProxyFault}
use Rattle.pgw_proxy.specs.declared.fault.ProxyFault.TheVariants as fault
use Rattle.pgw_proxy.specs.declared.run.ProxyRun.{ProxyRun}
use Rattle.pgw_proxy.specs.Record.{RelayMessage, side_bytes, record_of}
use Rattle.pgw_proxy.specs.Proxied.{SideEvent, RelayCourse, Going, Stopped, ProxyPlace, Proxied, side_input}
use Rattle.pgw_proxy.specs.Turns.{Links, Turns, side_faults, io_of, other, side_tape}

-- a link before and behind some calls: what it tells, what is to come, and how many calls failed
pub record Span : Type 0 where
  pub old : Tape
  pub new : Tape
  pub was : Option (List ℕ)
  pub is : Option (List ℕ)
  pub before : ℕ
  pub now : ℕ

abbrev pub span : {L : Type 0} → (L → Tape) → (L → Option (List ℕ)) → (L → ℕ) → L → L → Span
span tape left faults old new = record {
  old = tape old;
  new = tape new;
  was = left old;
  is = left new;
  before = faults old;
  now = faults new;
}

-- both links before, and behind
abbrev pub start_of : Span → Span → Links
start_of client server = record {
  client = client.old;
  server = server.old;
  client_faults = client.before;
  server_faults = server.before;
}

abbrev pub relay_links : Span → Span → Links
relay_links client server = record {
  client = client.new;
  server = server.new;
  client_faults = client.now;
  server_faults = server.now;
}

-- ---- what moved

abbrev pub is_side : Side → Side → Bool
is_side Client Client = true
is_side Server Server = true
is_side a b = false

-- how many turns are a side's
abbrev pub turns_of : Side → List Side → ℕ
turns_of side turns = length (filter (λ t. is_side side t) turns)

-- the link answered its end
abbrev pub MetEnd : Tape → Tape → Type 0
MetEnd old new = (more : List ℕ) × (n : ℕ) × (new.ended ≡ (old.ended ++ more) ++ n ∷ [])

-- the bytes that came number at least the turns, or the link answered its end
abbrev pub HadTurns : Tape → Tape → ℕ → List ℕ → Type 0
HadTurns old new count came = (count ≤ length came) ⊎ MetEnd old new

-- of a link that knows what is to come: what was taken is the front of it, and the end is answered behind the last byte
pub record IsRelayForetold (link : Span) : Type 0 where
  pub foreseen : Foreseen link.was link.is link.old link.new
  pub ends : TapeEnds link.is link.old link.new

-- ---- at each side

-- a call of its link that failed is not why the proxy stopped; and where memory was wanting, none failed
abbrev pub FaredWell : Side → Links → Links → Option ProxyFault → Type 0
FaredWell side start last why = (why ≢ Some (io_of side))
    × (why ≡ Some fault.OutOfMemory → Rose (side_faults side start) (side_faults side last) → ⊥)

-- Over the link to this side its pieces came, and the messages of the other side were written: whole and flushed, or a
-- front of them where a call of the link failed. So many turns were made, unless a call of its link failed.
pub record AtLink (side : Side) (start last : Links) (turns : List Side) (events : List SideEvent)
    (messages : List RelayMessage) (why : Option ProxyFault) : Type 0 where
  pub took : (side_tape side last).took ≡ (side_tape side start).took ++ side_input side events
  pub part : List ℕ
  pub lost : List ℕ
  pub cut : side_bytes (other side) messages ≡ part ++ lost
  pub wrote : (side_tape side last).wrote ≡ (side_tape side start).wrote ++ part
  pub whole : FaredWell side start last why → lost ≡ []
  pub flushed : FaredWell side start last why → part ≢ []
      → (side_tape side last).flushed ≡ length (side_tape side last).wrote
  pub calm : why ≢ Some (io_of side) → why ≢ Some fault.OutOfMemory
      → side_faults side last ≡ side_faults side start
  pub failed : why ≡ Some (io_of side) → Rose (side_faults side start) (side_faults side last)
  pub turns_made : why ≢ Some (io_of side) → HadTurns (side_tape side start) (side_tape side last)
      (turns_of side turns) (side_input side events)

-- ---- the whole

-- The pieces lead on; or they lead to the fault for which the proxy stopped; or a call of a link failed, and memory was
-- not wanting beside.
abbrev pub StopsFor : Option ProxyFault → RelayCourse → Type 0
StopsFor None course = (p : ProxyPlace) × (course ≡ Going p)
StopsFor (Some f) course = (((f ≡ io_of Client) ⊎ (f ≡ io_of Server))
    × (course ≢ Stopped fault.OutOfMemory)) ⊎ (course ≡ Stopped f)

-- In these turns a proxy between two links passed on these messages, those of the pieces that came.
pub record RelaysMessages (turns : List Side) (start last : Links) (messages : List RelayMessage)
    (why : Option ProxyFault) : Type 0 where
  pub done : List Side
  pub left : List Side
  pub cut : turns ≡ done ++ left
  -- all turns were made, where there was no fault
  pub all : why ≡ None → left ≡ []
  pub events : List SideEvent
  pub course : RelayCourse
  -- turn by turn
  pub made : Turns start done events messages course last why
  -- and in sum
  pub proxied : Proxied events messages course
  pub at_each : (side : Side) → AtLink side start last done events messages why
  pub stops : StopsFor why course

-- What a run comes to that is answered: the record is that of the messages passed on, and memory was not wanting.
pub record Relays (turns : List Side) (client server : Span)
    (client_foretells server_foretells : Type 0) (run : ProxyRun) : Type 0 where
  pub messages : List RelayMessage
  pub passes : RelaysMessages turns (start_of client server) (relay_links client server) messages
      run.fault
  pub record_is : run.tape ≡ record_of messages
  pub known : run.fault ≢ Some fault.OutOfMemory
  pub client_foretold : client_foretells → IsRelayForetold client
  pub server_foretold : server_foretells → IsRelayForetold server

-- Where memory was wanting, in a turn or for the record behind the last, the turns up to then were made as ever.
pub record Unrecorded (turns : List Side) (client server : Span)
    (client_foretells server_foretells : Type 0) : Type 0 where
  pub messages : List RelayMessage
  pub why : Option ProxyFault
  pub passes : RelaysMessages turns (start_of client server) (relay_links client server) messages
      why
  pub client_foretold : client_foretells → IsRelayForetold client
  pub server_foretold : server_foretells → IsRelayForetold server

abbrev pub RelaysOr : {E : Type 0} → List Side → Span → Span → Type 0 → Type 0
    → Result ProxyRun E → Type 0
RelaysOr turns client server client_foretells server_foretells (Ok run) =
    Relays turns client server client_foretells server_foretells run
RelaysOr turns client server client_foretells server_foretells (Err e) =
    Unrecorded turns client server client_foretells server_foretells
