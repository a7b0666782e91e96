-- Those who wait.
use Rattle.std.specs.Prelude.{◌≡◌, ◌<◌, ◌≤◌, ◌+◌, ◌==◌, ℕ, not, List, [], ◌∷◌, ◌++◌, length, drop, slice_get, Some}
use Rattle.std.specs.List.{filter}
use Rattle.pgw_pool_turns.specs.declared.waiting.JoinError.{JoinError}
use Rattle.pgw_pool_turns.specs.declared.waiting.JoinError.TheVariants.{Full, Exhausted}

-- how many may wait, how many tickets were given, and the tickets of those who wait, in order
pub record TurnRow : Type 0 where
  pub room : ℕ
  pub issued : ℕ
  pub waiting : List ℕ

abbrev pub row : ℕ → ℕ → List ℕ → TurnRow
row room issued waiting = record { room = room; issued = issued; waiting = waiting }

-- the tickets ascend: each is `low` or above, and below `high`
abbrev pub Ascend : ℕ → List ℕ → ℕ → Type 0
Ascend low [] high = low ≤ high
Ascend low (t ∷ ts) high = (low ≤ t) × Ascend (t + 1) ts high

-- each who waits has a ticket of its own, who came later a higher one, and no more wait than may
pub record IsInOrder (r : TurnRow) : Type 0 where
  pub ascend : Ascend 0 r.waiting r.issued
  pub fits : length r.waiting ≤ r.room

-- as many tickets as can be numbered
abbrev pub most_tickets : ℕ
most_tickets = 18446744073709551615

-- this ticket is given, behind all others
abbrev pub Joins : TurnRow → TurnRow → ℕ → Type 0
Joins old new ticket =
    (ticket ≡ old.issued) × (new ≡ row old.room (old.issued + 1) (old.waiting ++ ticket ∷ []))

-- why none is given: there is no room; or there is, and all tickets were given
abbrev pub JoinsNone : TurnRow → JoinError → Type 0
JoinsNone r Full = r.room ≤ length r.waiting
JoinsNone r Exhausted = (length r.waiting < r.room) × (r.issued ≡ most_tickets)

-- it is this ticket's turn
abbrev pub IsTurnOf : ℕ → TurnRow → Type 0
IsTurnOf ticket r = slice_get r.waiting 0 ≡ Some ticket

-- the first who waits no longer does
abbrev pub served : TurnRow → TurnRow
served r = row r.room r.issued (drop 1 r.waiting)

-- who has this ticket no longer waits
abbrev pub without : ℕ → TurnRow → TurnRow
without ticket r = row r.room r.issued (filter (λ t. not (t == ticket)) r.waiting)
