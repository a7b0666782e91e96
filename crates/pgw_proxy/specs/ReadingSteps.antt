-- The steps of reading a record. The proofs carry it, and no public clause cites it.
use Rattle.std.specs.Prelude.{◌≡◌, ◌++◌, ℕ, List}
use Rattle.std.specs.Prelude.{Bool, true, false, Some, None, Result, Ok, Err}
use Rattle.pgw_proxy.specs.declared.context.Context.{Context}
use Rattle.pgw_proxy.specs.declared.recorded.Side.{Side}
use Rattle.pgw_proxy.specs.declared.recorded.Recorded.{Recorded}
use Rattle.pgw_proxy.specs.declared.reading.Entry.{Entry as Found}
use Rattle.pgw_proxy.specs.declared.fault.ProxyFault.{ProxyFault}
use Rattle.pgw_proxy.specs.declared.fault.ProxyFault.TheVariants as proxy
use Rattle.pgw_proxy.specs.declared.fault.RecordFault.{RecordFault}
use Rattle.pgw_proxy.specs.declared.fault.RecordFault.TheVariants as fault
use Rattle.pgw_proxy.specs.Reading.{RelayEntry, Missing, Astray, Holds, message_in}
use Rattle.pgw_proxy.specs.Reading.{ReadsRelayRecord}

-- what was found at the front of the records
abbrev pub Finds : ℕ → RelayEntry → Result Found RecordFault → Type 0
Finds n entry (Ok x) = entry ≡ Holds x.side x.message.now x.rest.now
Finds n entry (Err (fault.Truncated k)) = (k ≡ n) × (entry ≡ Missing)
Finds n entry (Err (fault.BadDirection k d)) = (k ≡ n) × (entry ≡ Astray d)
Finds n entry (Err f) = ⊥

-- memory was wanting
abbrev pub is_relay_wanting : ProxyFault → Bool
is_relay_wanting proxy.OutOfMemory = true
is_relay_wanting f = false

-- what the bytes of a record were read as
abbrev pub Becomes : Side → Context → List ℕ → Context → ℕ → Result Recorded RecordFault → Type 0
Becomes side c bytes next n (Ok m) = message_in side c bytes ≡ Some (m, next)
Becomes side c bytes next n (Err fault.OutOfMemory) = Unit {0}
Becomes side c bytes next n (Err (fault.BadMessage k)) =
    (k ≡ n) × (message_in side c bytes ≡ None)
Becomes side c bytes next n (Err f) = ⊥

-- these messages before what the others are read as
abbrev pub all_before : List Recorded → Result (List Recorded) RecordFault
    → Result (List Recorded) RecordFault
all_before ms (Ok others) = Ok (ms ++ others)
all_before ms (Err f) = Err f

-- Some were read, and what the rest is read as tells what all are.
abbrev pub ReadOn : Context → ℕ → List ℕ → List Recorded → Context → ℕ → List ℕ → Type 0
ReadOn c n bytes ms next k rest = (others : Result (List Recorded) RecordFault)
    → ReadsRelayRecord next k rest others → ReadsRelayRecord c n bytes (all_before ms others)
