-- What is seen of a pool over links in memory, of its leases that are out, and of a call.
use Rattle.std.specs.Prelude.{◌≡◌, ◌≤◌, ◌+◌, ◌<◌, Bool, true, false, ℕ, List, ◌++◌, map, length, take, slice_index_or, Option, Some, None}
use Rattle.pgw_link.specs.Memory.{memory_tape, memory_left, faults_of}
use Rattle.pgw_link.specs.declared.link.Link as Link
use Rattle.pgw_link.specs.declared.memory.MemoryLink.{MemoryLink}
use Rattle.pgw_session.specs.declared.types.Request.{Request}
use Rattle.pgw_pool.specs.declared.pool.Pool.{Pool}
use Rattle.pgw_pool.specs.Views.{idle_in, lefts_in, left_of, lent_by, lease_view, lease_number, room_of}
use Rattle.pgw_prog_script.specs.declared.pool_line.PoolCall.{PoolCall}
use Rattle.pgw_prog_pool.specs.declared.desk.Seat.{Seat}
use Rattle.pgw_prog_pool.specs.Standing.{ScriptLease, lease_place, PoolStanding, standing_in_pool, TellsPoolLines, PrintsPoolCall, Calls, NamesNone}

-- what a link in memory still has to come
abbrev pub to_come : MemoryLink → Option (List ℕ)
to_come link = Some (memory_left link)

abbrev pub seat_place : Seat → ScriptLease
seat_place s =
    lease_place (lease_number s.lease) (lease_view memory_tape faults_of s.lease)
    (left_of to_come s.lease) s.answers

abbrev pub pool_standing : {L : Link.Ghosts MemoryLink} → Pool MemoryLink L → List Seat
    → PoolStanding
pool_standing pool out =
    standing_in_pool (lent_by pool) (idle_in memory_tape faults_of pool) (lefts_in to_come pool)
    (map seat_place out)

-- each lease that is out can be given back
abbrev pub HasRoom : {L : Link.Ghosts MemoryLink} → Pool MemoryLink L → List Seat → Type 0
HasRoom pool out =
    length (idle_in memory_tape faults_of pool) + length out ≤ room_of pool

-- a request was asked in a lease, and this was printed of it
abbrev pub PrintsRun : Request → ScriptLease → ScriptLease → (old new : List ℕ) → Type 0
PrintsRun q before after old new =
    (line : List ℕ) × TellsPoolLines q before after line × (new ≡ old ++ line)

-- a call was made, and this was printed of it; or it names no lease that is out, and nothing was done
abbrev pub PrintsCall : (known : Bool) (s : PoolStanding) → PoolCall
    → (t : PoolStanding) (old new : List ℕ) →
    Type 0
PrintsCall true s c t old new = (line : List ℕ) × PrintsPoolCall s c line t × (new ≡ old ++ line)
PrintsCall false s c t old new = NamesNone c s.out × (t ≡ s) × (new ≡ old)

-- these calls were made, and this was printed of them
abbrev pub Printed : (first : PoolStanding) → List PoolCall → (there : PoolStanding)
    → (old new : List ℕ) →
    Type 0
Printed first calls there old new =
    (text : List ℕ) × Calls first calls text there × (new ≡ old ++ text)

-- all of them were; or those before a place, whose call names a lease that is not out
abbrev pub MadeUpTo : (first : PoolStanding) → List PoolCall → (there : PoolStanding)
    → (old new : List ℕ) →
    Option ℕ → Type 0
MadeUpTo first calls there old new None = Printed first calls there old new
MadeUpTo first calls there old new (Some at) =
    (at < length calls) × Printed first (take at calls) there old new
    × ((c : PoolCall) → NamesNone (slice_index_or calls at c) there.out)
