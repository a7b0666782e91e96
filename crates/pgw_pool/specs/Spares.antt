-- Sessions that no pool holds.
use Rattle.std.specs.Prelude.{ℕ, List, [], ◌∷◌, Option, Result, Ok, Err}
use Rattle.pgw_link.specs.Tape.{Tape}
use Rattle.pgw_session.specs.Events.{Event}
use Rattle.pgw_pool.specs.declared.spare.Spare.{Spare}
use Rattle.pgw_pool.specs.declared.returned.Returned.{Returned}
use Rattle.pgw_pool.specs.declared.returned.Returned.TheVariants.{Kept, Dropped}
use Rattle.pgw_pool.specs.declared.returned.DropCause.{DropCause}
use Rattle.pgw_pool.specs.Histories.{History, Lent, View, with_lease, IsIdleInPool}
use Rattle.pgw_pool.specs.Views.{view_of, left_in}

-- the number of its last lease
abbrev pub last_lease : {X : Type 0} → Spare X → ℕ
last_lease s = s.number

-- how many leases it has had
abbrev pub spare_leases : {X : Type 0} → Spare X → ℕ
spare_leases s = s.leases

abbrev pub spare_view : {X : Type 0} → (X → Tape) → (X → ℕ) → Spare X → View
spare_view tape faults s = view_of tape faults s.client

-- what its link still has to come
abbrev pub spare_left : {X : Type 0} → (X → Option (List ℕ)) → Spare X → Option (List ℕ)
spare_left left s = left_in left s.client

-- a session that may be put into a pool, if there is one
abbrev pub spares_in : {X : Type 0} → (X → Tape) → (X → ℕ) →
    Result (Spare X) DropCause → List View
spares_in tape faults (Ok s) = spare_view tape faults s ∷ []
spares_in tape faults (Err why) = []

-- what its link still has to come then
abbrev pub lefts_of : {X : Type 0} → (X → Option (List ℕ)) → Result (Spare X) DropCause →
    List (Option (List ℕ))
lefts_of left (Ok s) = spare_left left s ∷ []
lefts_of left (Err why) = []

-- what a pool would answer
abbrev pub returned_as : {X : Type 0} → Result (Spare X) DropCause → Returned
returned_as (Ok s) = Kept
returned_as (Err why) = Dropped why

-- its last lease was this one, and a reset was made behind it
abbrev pub IsSpared : History → Lent → View → Type 0
IsSpared h l v = (es : List Event) × IsIdleInPool l.number (with_lease h l es) v
