-- How many leases the sessions of a pool have had.
use Rattle.std.specs.Prelude.{◌≡◌, ℕ, ◌+◌, ◌-◌, ◌^◌, min, List, [], ◌∷◌, ◌++◌, map}
use Rattle.pgw_types.specs.Counts.{next_count}
use Rattle.pgw_session.specs.Events.{Event}
use Rattle.pgw_pool.specs.declared.returned.Returned.{Returned}
use Rattle.pgw_pool.specs.declared.returned.Returned.TheVariants.{Kept, Dropped}
use Rattle.pgw_pool.specs.declared.checking.CheckError.{CheckError}
use Rattle.pgw_pool.specs.declared.checking.CheckError.TheVariants as refusal
use Rattle.pgw_pool.specs.Histories.{Lent, Over, ended, checked, History, with_lease, with_check}

-- ---- by what was done over a session

-- how many leases are over
abbrev pub leases_over : List Over → ℕ
leases_over [] = 0
leases_over (ended l es ∷ os) = leases_over os + 1
leases_over (checked es ∷ os) = leases_over os

-- the count of an idle session, which stays at the greatest u64
abbrev pub leases_had : History → ℕ
leases_had h = min (leases_over h.over) (2 ^ 64 - 1)

-- that of one that is lent, with this lease
abbrev pub leases_with_this : History → ℕ
leases_with_this h = next_count (leases_over h.over)

-- each idle session's count is that of its history
abbrev pub AreCounted : List History → List ℕ → Type 0
AreCounted hs counts = counts ≡ map leases_had hs

-- ---- lend

-- The first session is lent, and has had one lease more. The counts of the others stay.
abbrev pub LendsOne : List ℕ → List ℕ → ℕ → Type 0
LendsOne counts now leases = (n : ℕ) × (counts ≡ n ∷ now) × (leases ≡ next_count n)

-- by what was done over these sessions
abbrev pub LendsCounted : List History → List ℕ → ℕ → Type 0
LendsCounted [] now leases = ⊥
LendsCounted (h ∷ hs) now leases = (leases ≡ leases_with_this h) × AreCounted hs now

-- a check is no lease
abbrev pub LendsFitCounted : List History → List ℕ → ℕ → Type 0
LendsFitCounted [] now leases = ⊥
LendsFitCounted (h ∷ hs) now leases =
    ((es : List Event) → leases ≡ leases_with_this (with_check h es)) × AreCounted hs now

-- the counts that are left where none is lent
abbrev pub LeavesCounts : List ℕ → List ℕ → CheckError → Type 0
LeavesCounts counts now (refusal.Unfit why) = (n : ℕ) × (counts ≡ n ∷ now)
LeavesCounts counts now e = now ≡ counts

abbrev pub StayCounted : CheckError → List History → List ℕ → Type 0
StayCounted (refusal.Unfit why) [] now = ⊥
StayCounted (refusal.Unfit why) (h ∷ hs) now = AreCounted hs now
StayCounted e hs now = AreCounted hs now

-- ---- give back

-- a session that is kept is counted behind all others
abbrev pub counts_behind : List ℕ → ℕ → Returned → List ℕ
counts_behind counts leases Kept = counts ++ leases ∷ []
counts_behind counts leases (Dropped why) = counts

-- by what was done over these sessions, and in the lease; its reset is no lease
abbrev pub BackCounted : List History → History → Lent → List ℕ → Returned → Type 0
BackCounted hs h l now Kept = (es : List Event) → AreCounted (hs ++ with_lease h l es ∷ []) now
BackCounted hs h l now (Dropped why) = AreCounted hs now
