-- What is seen of a pool and of a lease.
use Rattle.std.specs.Prelude.{ℕ, List, map, Option}
use Rattle.std.specs.VecDeque.{deque_capacity}
use Rattle.pgw_link.specs.Tape.{Tape}
use Rattle.pgw_link.specs.declared.link.Link as Link
use Rattle.pgw_client_calls.specs.State.{ClientState, line_of, link_of, known_by, is_broken}
use Rattle.pgw_pool.specs.declared.lease.Lease.{Lease}
use Rattle.pgw_pool.specs.declared.pool.Pool.{Pool}
use Rattle.pgw_pool.specs.declared.session.Session.{Session}
use Rattle.pgw_pool.specs.Histories.{View}

abbrev pub view_of : {X : Type 0} → (X → Tape) → (X → ℕ) →
    ClientState X → View
view_of tape faults c = record {
  client = known_by c;
  line = line_of tape faults c;
  broken = is_broken c;
}

-- what its link still has to come, where that is known
abbrev pub left_in : {X : Type 0} → (X → Option (List ℕ)) →
    ClientState X → Option (List ℕ)
left_in left c = left (link_of c)

-- ---- a session

abbrev pub session_view : {X : Type 0} → (X → Tape) → (X → ℕ) → Session X → View
session_view tape faults s = view_of tape faults s.client

abbrev pub session_left : {X : Type 0} → (X → Option (List ℕ)) → Session X → Option (List ℕ)
session_left left s = left_in left s.client

-- how many leases it has had
abbrev pub lease_count : {X : Type 0} → Session X → ℕ
lease_count s = s.leases

-- ---- a lease

abbrev pub lease_number : {X : Type 0} → Lease X → ℕ
lease_number lease = lease.number

-- how many leases its session has had, this one included
abbrev pub leases_of : {X : Type 0} → Lease X → ℕ
leases_of lease = lease.leases

abbrev pub client_in : {X : Type 0} → Lease X → ClientState X
client_in lease = lease.client

abbrev pub lease_view : {X : Type 0} → (X → Tape) → (X → ℕ) → Lease X → View
lease_view tape faults lease = view_of tape faults lease.client

abbrev pub left_of : {X : Type 0} → (X → Option (List ℕ)) → Lease X →
    Option (List ℕ)
left_of left lease = left_in left lease.client

-- ---- a pool

-- its idle sessions, the one first that has been idle longest
abbrev pub idle_in : {X : Type 0} {L : Link.Ghosts X} → (X → Tape) → (X → ℕ) → Pool X L
    → List View
idle_in tape faults pool = map (session_view tape faults) (pool.idle).items

-- what their links still have to come
abbrev pub lefts_in : {X : Type 0} {L : Link.Ghosts X} → (X → Option (List ℕ)) → Pool X L →
    List (Option (List ℕ))
lefts_in left pool = map (session_left left) (pool.idle).items

-- how many leases each of them has had
abbrev pub counts_in : {X : Type 0} {L : Link.Ghosts X} → Pool X L → List ℕ
counts_in pool = map lease_count (pool.idle).items

-- how many leases it has lent
abbrev pub lent_by : {X : Type 0} {L : Link.Ghosts X} → Pool X L → ℕ
lent_by pool = pool.lent

-- how many of its leases were not given back yet, where each one that was given back is its own
abbrev pub out_by : {X : Type 0} {L : Link.Ghosts X} → Pool X L → ℕ
out_by pool = pool.out

-- how many sessions it has dropped, and how many it has connected
abbrev pub dropped_by : {X : Type 0} {L : Link.Ghosts X} → Pool X L → ℕ
dropped_by pool = pool.dropped

abbrev pub connected_by : {X : Type 0} {L : Link.Ghosts X} → Pool X L → ℕ
connected_by pool = pool.connected

-- how many sessions it has room for
abbrev pub room_of : {X : Type 0} {L : Link.Ghosts X} → Pool X L → ℕ
room_of pool = pool.room

-- for how many sessions it has taken memory
abbrev pub reserved_in : {X : Type 0} {L : Link.Ghosts X} → Pool X L → ℕ
reserved_in pool = deque_capacity pool.idle
