-- What becomes of the bytes that wait of one side. The proofs carry it, and no public clause cites
-- it.
use Rattle.std.specs.Prelude.{◌≡◌, ◌<◌, ℕ, Bool, true, false, List, ◌++◌, length, Result, Ok, Err}
use Rattle.pgw_proxy.specs.declared.context.Context.{Context}
use Rattle.pgw_proxy.specs.declared.recorded.Side.{Side}
use Rattle.pgw_proxy.specs.declared.fault.ProxyFault.{ProxyFault}
use Rattle.pgw_proxy.specs.Record.{RelayMessage, side_bytes, record_of}
use Rattle.pgw_proxy.specs.Proxied.{SideEnding, Waits, Fails, SideTakes, relay_answer}

-- where it waits, it is in this context with these bytes left
abbrev pub RelayLeaves : Context → List ℕ → SideEnding → Type 0
RelayLeaves next left (Waits c rest) = (next ≡ c) × (left ≡ rest)
RelayLeaves next left (Fails why) = Unit {0}

-- what is left of the bytes is their end
abbrev pub IsCutOf : List ℕ → List ℕ → Type 0
IsCutOf bytes left = (taken : List ℕ) × (bytes ≡ taken ++ left)

-- the bytes gave some messages, which were passed on and recorded
pub record SideRelayed (side : Side) (c : Context) (bytes : List ℕ) (next : Context)
    (left out_old out_new tape_old tape_new : List ℕ)
    (answer : Result (Unit {0}) ProxyFault) : Type 0 where
  pub messages : List RelayMessage
  pub there : SideEnding
  pub takes : SideTakes side c bytes messages there
  pub leaves : RelayLeaves next left there
  pub out : out_new ≡ out_old ++ side_bytes side messages
  pub tape : tape_new ≡ tape_old ++ record_of messages
  pub says : answer ≡ relay_answer there

-- some messages were passed on and recorded, and where the rest leads all lead
pub record RelaysUpTo (side : Side) (c : Context) (bytes : List ℕ) (next : Context)
    (left out_old out_new tape_old tape_new : List ℕ) : Type 0 where
  pub messages : List RelayMessage
  pub cut : IsCutOf bytes left
  pub on : (more : List RelayMessage) (there : SideEnding) → SideTakes side next left more there
      → SideTakes side c bytes (messages ++ more) there
  pub out : out_new ≡ out_old ++ side_bytes side messages
  pub tape : tape_new ≡ tape_old ++ record_of messages

-- one message was passed on and recorded, or none is whole, or there was a fault
abbrev pub StepsRelay : Side → Context → List ℕ → Context → List ℕ → List ℕ → List ℕ → List ℕ
    → List ℕ
    → Result Bool ProxyFault → Type 0
StepsRelay side c bytes next left out_old out_new tape_old tape_new (Ok true) =
    RelaysUpTo side c bytes next left out_old out_new tape_old tape_new
    × (length left < length bytes)
StepsRelay side c bytes next left out_old out_new tape_old tape_new (Ok false) =
    SideRelayed side c bytes next left out_old out_new tape_old tape_new (Ok tt)
StepsRelay side c bytes next left out_old out_new tape_old tape_new (Err f) =
    SideRelayed side c bytes next left out_old out_new tape_old tape_new (Err f)
