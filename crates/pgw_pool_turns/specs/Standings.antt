-- What a desk has.
use Rattle.std.specs.Prelude.{◌≡◌, ◌<◌, ◌≤◌, ◌+◌, ◌-◌, ℕ, [], ◌∷◌, ◌++◌, length}
use Rattle.pgw_pool_turns.specs.declared.desk.Numbers.{Numbers}
use Rattle.pgw_pool_turns.specs.Rows.{TurnRow, row, IsTurnOf, served, without}

-- how many things there is room for, how many can be lent, how many are out, and those who wait
pub record TurnDesk : Type 0 where
  pub room : ℕ
  pub ready : ℕ
  pub out : ℕ
  pub row : TurnRow

abbrev pub turn_standing : ℕ → ℕ → ℕ → TurnRow → TurnDesk
turn_standing room ready out row = record { room = room; ready = ready; out = out; row = row }

-- no more can be lent, or are out, than there is room for
abbrev pub IsWithinRoom : TurnDesk → Type 0
IsWithinRoom d = d.ready + d.out ≤ d.room

abbrev pub new_standing : ℕ → ℕ → ℕ → TurnDesk
new_standing room ready room_to_wait = turn_standing room ready 0 (row room_to_wait 0 [])

abbrev pub numbers_of : TurnDesk → Numbers
numbers_of d = record {
  capacity = d.room;
  ready = d.ready;
  out = d.out;
  waiting = length d.row.waiting;
}

-- one can be lent, and nobody waits
abbrev pub IsFree : TurnDesk → Type 0
IsFree d = (0 < d.ready) × (d.row.waiting ≡ [])

-- one can be lent, and this ticket is the first
abbrev pub IsTurn : ℕ → TurnDesk → Type 0
IsTurn ticket d = (0 < d.ready) × IsTurnOf ticket d.row

-- a place is free
abbrev pub HasPlace : TurnDesk → Type 0
HasPlace d = d.ready + d.out < d.room

-- ---- calls

-- one more waits
abbrev pub with_next_turn : TurnDesk → TurnDesk
with_next_turn d =
    turn_standing d.room d.ready d.out
    (row d.row.room (d.row.issued + 1) (d.row.waiting ++ d.row.issued ∷ []))

-- this ticket's wait is over, without a thing
abbrev pub gone : ℕ → TurnDesk → TurnDesk
gone ticket d = turn_standing d.room d.ready d.out (without ticket d.row)

-- one is lent to the first who waits, or to who came while nobody did
abbrev pub after_lent_turn : TurnDesk → TurnDesk
after_lent_turn d = turn_standing d.room (d.ready - 1) (d.out + 1) (served d.row)

-- the first was served, and there was nothing for it
abbrev pub after_empty_turn : TurnDesk → TurnDesk
after_empty_turn d = turn_standing d.room d.ready d.out (served d.row)

-- one that was out can be lent again
abbrev pub put : TurnDesk → TurnDesk
put d = turn_standing d.room (d.ready + 1) (d.out - 1) d.row

-- one that was out does not come back
abbrev pub lost : TurnDesk → TurnDesk
lost d = turn_standing d.room d.ready (d.out - 1) d.row

-- a place is kept
abbrev pub claimed : TurnDesk → TurnDesk
claimed d = turn_standing d.room d.ready (d.out + 1) d.row
