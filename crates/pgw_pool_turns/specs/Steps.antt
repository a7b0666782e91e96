-- Any list of calls of a desk.
use Rattle.std.specs.Prelude.{◌<◌, ℕ, List, [], ◌∷◌, ◌++◌}
use Rattle.pgw_pool_turns.specs.Rows.{Ascend}
use Rattle.pgw_pool_turns.specs.Standings.{TurnDesk, IsFree, IsTurn, HasPlace, new_standing, with_next_turn, gone, after_lent_turn, after_empty_turn, put, lost, claimed}

-- what was done, of which a wait that ended tells its ticket
pub data TurnDeed : Type 0 where
  -- a ticket was given
  waits : ℕ → TurnDeed
  -- the ticket's wait was over before its turn
  goes : ℕ → TurnDeed
  -- it was this ticket's turn
  is_served : ℕ → TurnDeed
  -- anything else
  other : TurnDeed

-- one call
pub data TurnStep : TurnDesk → TurnDeed → TurnDesk → Type 0 where
  lends_at_once : (d : TurnDesk) → IsFree d → TurnStep d other (after_lent_turn d)
  -- the stock had lent as many as it ever will
  finds_none : (d : TurnDesk) → IsFree d → TurnStep d other (after_empty_turn d)
  joins : (d : TurnDesk) → TurnStep d (waits d.row.issued) (with_next_turn d)
  leaves : (d : TurnDesk) (ticket : ℕ) → TurnStep d (goes ticket) (gone ticket d)
  lends_to : (d : TurnDesk) (ticket : ℕ) → IsTurn ticket d
      → TurnStep d (is_served ticket) (after_lent_turn d)
  -- it was its turn, and the stock had lent as many as it ever will
  spends : (d : TurnDesk) (ticket : ℕ) → IsTurn ticket d
      → TurnStep d (is_served ticket) (after_empty_turn d)
  puts : (d : TurnDesk) → 0 < d.out → TurnStep d other (put d)
  loses : (d : TurnDesk) → TurnStep d other (lost d)
  claims : (d : TurnDesk) → HasPlace d → TurnStep d other (claimed d)

-- any list of calls, in order, from a new desk
pub data TurnCourse (room ready places : ℕ) : List TurnDeed → TurnDesk → Type 0 where
  begins : TurnCourse room ready places [] (new_standing room ready places)
  goes_on : (deeds : List TurnDeed) (deed : TurnDeed) (d e : TurnDesk) →
      TurnCourse room ready places deeds d → TurnStep d deed e →
      TurnCourse room ready places (deeds ++ deed ∷ []) e

-- the tickets that were served, in the order in which they were
abbrev pub tickets_of : TurnDeed → List ℕ
tickets_of (is_served ticket) = ticket ∷ []
tickets_of deed = []

abbrev pub served_in : List TurnDeed → List ℕ
served_in [] = []
served_in (deed ∷ deeds) = tickets_of deed ++ served_in deeds

-- Who was served came before all who were served later, and before all who wait.
abbrev pub IsFair : List TurnDeed → TurnDesk → Type 0
IsFair deeds d = Ascend 0 (served_in deeds ++ d.row.waiting) d.row.issued
