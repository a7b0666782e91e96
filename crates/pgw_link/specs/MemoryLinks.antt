-- Links that a dialer in memory hands out and takes back.
use Rattle.std.specs.Prelude.{◌≡◌, List, [], ◌∷◌, Option, Some, None}
use Rattle.pgw_link.specs.Tape.{Tape, new_tape}
use Rattle.pgw_link.specs.Memory.{memory_tape, faults_of}
use Rattle.pgw_link.specs.declared.memory.MemoryLink.{MemoryLink}

-- a link with no fault, of which no call was made
abbrev pub IsUnused : MemoryLink → Type 0
IsUnused link = (faults_of link ≡ 0) × (memory_tape link ≡ new_tape)

-- what the link that was closed last told
abbrev pub last_shut : List Tape → Option Tape
last_shut [] = None
last_shut (link ∷ []) = Some link
last_shut (link ∷ next ∷ more) = last_shut (next ∷ more)

abbrev pub shut_of : Option MemoryLink → Option Tape
shut_of None = None
shut_of (Some link) = Some (memory_tape link)
