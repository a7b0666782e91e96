-- The rule of the table, and what each step tells.
use Rattle.std.specs.Prelude.{◌≡◌, ◌≢◌, ℕ, ◌+◌, ◌<◌, ◌≤◌, Bool, true, false, cond, eqb, leb, ◌||◌, List, [], ◌∷◌, ◌++◌, length, slice_get, Some, Option}
use mathlib.Core.Option as math
use lib.ListN.{get_elem?}
use Rattle.atomic_table.specs.Table.{State, Me, Step, rest}
use Rattle.pgw_registry.specs.declared.call.Call.{Call}
use Rattle.pgw_registry.specs.declared.call.Entry.{Entry}
use Rattle.pgw_registry.specs.declared.sight.Sight.{Sight}
use Rattle.pgw_registry.specs.declared.sight.Old.{Old}
use Rattle.pgw_registry.specs.declared.share.Share.{Share}
use Rattle.pgw_registry.specs.Shares.{IsWholeShare, IsWithinWhole, everything, none, half, together, AddUp}
use Rattle.pgw_registry.specs.Sequential.{Book, nothing, next_book, reply_of, state_after, IsLegal}
use Rattle.pgw_registry.specs.Numbers.{weight}
use Rattle.pgw_registry.specs.declared.call.Reply.{Reply}

abbrev pub Log : Type 0
Log = List Entry

abbrev pub entry : ℕ → Call → Reply → Entry
entry by c r = record { by = by; call = c; reply = r }

-- the list begins with xs
abbrev pub BeginsLog : Log → Log → Type 0
BeginsLog xs log = (more : Log) × (log ≡ xs ++ more)

-- whether the number is among these
abbrev pub held : ℕ → List ℕ → Bool
held n [] = false
held n (x ∷ xs) = eqb x n || held n xs

-- the places, counted from k, of the calls of these seats
abbrev pub places_from : ℕ → List ℕ → Log → List ℕ
places_from k numbers [] = []
places_from k numbers (e ∷ es) =
    cond (held e.by numbers) (k ∷ places_from (k + 1) numbers es) (places_from (k + 1) numbers es)

abbrev pub places : List ℕ → Log → List ℕ
places numbers log = places_from 0 numbers log

-- how many views have the turn
abbrev pub turns : List Sight → ℕ
turns [] = 0
turns (v ∷ vs) = weight v.turn + turns vs

-- a list that was seen, with the numbers whose calls stood in it
abbrev pub old : Log → List ℕ → Old
old seen numbers = record { seen = seen; numbers = numbers }

abbrev pub no_old : Old
no_old = old [] []

abbrev pub sight : Log → ℕ → Bool → List ℕ → Share → Old → Old → Bool → Book → Sight
sight seen own with_process numbers share one two turn state =
    record {
      seen = seen;
      own = own;
      named = with_process;
      numbers = numbers;
      share = share;
      one =
          one;
      two = two;
      turn = turn;
      state = state;
    }

abbrev pub founder : Sight
founder = sight [] 0 true (0 ∷ []) everything no_old no_old false nothing

-- a seat that is cut from another, with half of its share
abbrev pub newcomer : Sight → Sight
newcomer v = sight v.seen 0 false [] (half v.share) no_old no_old false nothing

abbrev pub halved : Sight → Sight
halved v = sight v.seen v.own v.named v.numbers (half v.share) v.one v.two v.turn v.state

abbrev pub spent_sight : Sight
spent_sight = sight [] 0 true [] none no_old no_old false nothing

abbrev pub longer : Log → Log → Log
longer xs ys = cond (leb (length ys) (length xs)) xs ys

abbrev pub both_of : Sight → Sight → Sight
both_of v w =
    sight (longer v.seen w.seen) v.own v.named (v.numbers ++ w.numbers) (together v.share w.share)
    (old v.seen v.numbers) (old w.seen w.numbers) v.turn v.state

-- with the turn, the whole history was seen
abbrev pub holding : Sight → Log → Sight
holding v log =
    sight log v.own v.named v.numbers v.share v.one v.two true (state_after nothing log)

abbrev pub at_rest : Sight → Sight
at_rest v = sight v.seen v.own v.named v.numbers v.share v.one v.two false v.state

abbrev pub saw : Sight → Log → Sight
saw v log = sight log v.own v.named v.numbers v.share no_old no_old v.turn v.state

abbrev pub with_process : Sight → ℕ → Sight
with_process v n = sight v.seen n true (n ∷ []) v.share v.one v.two v.turn v.state

abbrev pub appended : Sight → Call → Sight
appended v c =
    sight (v.seen ++ entry v.own c (reply_of v.state c) ∷ []) v.own v.named v.numbers v.share
    v.one v.two v.turn (next_book v.state c)

-- no number is among both
abbrev pub Apart : List ℕ → List ℕ → Type 0
Apart xs ys = (n : ℕ) → held n xs ≡ true → held n ys ≡ true → ⊥

-- The list is a beginning of the history, and all calls of these numbers, which are of the view `id`, stand in it
pub record SeesProcessLog (log : Log) (owner : ℕ → math.Option ℕ) (id : ℕ) (seen : Log)
    (numbers : List ℕ) : Type 0 where
  pub begins : BeginsLog seen log
  pub calls : (k : ℕ) (e : Entry) → slice_get log k ≡ Some e → held e.by numbers ≡ true
      → k < length seen
  pub owns : (n : ℕ) → held n numbers ≡ true → owner n ≡ math.some id

-- What the rule says of one view. Whose number is which is said by `owner`
pub record FitsHistory (log : Log) (owner : ℕ → math.Option ℕ) (id : ℕ) (v : Sight) : Type 0 where
  pub now : SeesProcessLog log owner id v.seen v.numbers
  pub one : SeesProcessLog log owner id v.one.seen v.one.numbers
  pub two : SeesProcessLog log owner id v.two.seen v.two.numbers
  pub apart : Apart v.one.numbers v.two.numbers
  pub fresh : v.named ≡ false → owner id ≡ math.none
  pub spare : v.share.parts ≡ 0 → v.numbers ≡ []
  pub whole : v.turn ≡ true → (v.seen ≡ log) × (v.state ≡ state_after nothing log)

-- There is one legal history. The first word is the number of views with the turn, and the second the length of the history.
-- While no view has the turn, the slot is at home, with the state after the history. The views share all calls, and each number
-- that has an owner is among those of its view
pub record KeepsHistory (words : List ℕ) (homes : List (math.Option (Option Book)))
    (views : List Sight) : Type 0 where
  pub log : Log
  pub owner : ℕ → math.Option ℕ
  pub counts : words ≡ turns views ∷ length log ∷ []
  pub one_turn : turns views ≤ 1
  pub legal : IsLegal log
  pub home : turns views ≡ 0 → homes ≡ math.some (Some (state_after nothing log)) ∷ []
  pub each : (id : ℕ) (v : Sight) → get_elem? views id ≡ math.some v → FitsHistory log owner id v
  pub shares : AddUp (λ (v : Sight). v.share) views
  pub owned : (n id : ℕ) → owner n ≡ math.some id
      → (v : Sight) × (get_elem? views id ≡ math.some v) × (held n v.numbers ≡ true)
  pub beyond : (n : ℕ) → length views ≤ n → owner n ≡ math.none
  pub unowned : (n : ℕ) → owner n ≡ math.none → (k : ℕ) (e : Entry) → slice_get log k ≡ Some e
      → e.by ≢ n

abbrev pub Ruled : State (Option Book) Sight → Type 0
Ruled s = KeepsHistory s.words s.homes s.views

abbrev pub Sat : Type 0
Sat = Me (Option Book) Sight

abbrev pub Stp : Type 0
Stp = Step (Option Book)

-- the list begins with what was seen, and has no more calls of these numbers
abbrev pub Grown : Log → List ℕ → Log → Type 0
Grown seen numbers log = BeginsLog seen log × (places numbers log ≡ places numbers seen)

-- with the whole share, each call of the list is of these numbers
abbrev pub HasAll : Share → List ℕ → Log → Type 0
HasAll share numbers log = IsWholeShare share → length (places numbers log) ≡ length log

abbrev pub Later : Sight → Log → Type 0
Later v log =
    Grown v.seen v.numbers log × IsLegal log × HasAll v.share v.numbers log
    × IsWithinWhole v.share

abbrev pub TookLog : Stp → Sat → ℕ → Sat → Type 0
TookLog s m n w =
    (n ≡ 0 → (log : Log) × Later m.0 log × (w.0 ≡ holding m.0 log) ×
    (w.1 ≡ (0, Some (state_after nothing log)) ∷ m.1))
    × (n ≢ 0 → (w.0 ≡ m.0) × (w.1 ≡ m.1))

abbrev pub Left : Stp → Sat → ℕ → Sat → Type 0
Left s m n w = (w.0 ≡ at_rest m.0) × (w.1 ≡ rest m.1)

abbrev pub Looked : Stp → Sat → ℕ → Sat → Type 0
Looked s m n w =
    (log : Log) × Later m.0 log × (w.0 ≡ saw m.0 log) × (w.1 ≡ m.1) × (n ≡ length log)
    × Grown m.0.one.seen m.0.one.numbers log × Grown m.0.two.seen m.0.two.numbers log
    × Apart m.0.one.numbers m.0.two.numbers × (m.0.turn ≡ true → log ≡ m.0.seen)

abbrev pub NamesProcess : Stp → Sat → ℕ → Sat → Type 0
NamesProcess s m n w =
    (by : ℕ) × (w.0 ≡ with_process m.0 by) × (w.1 ≡ m.1) × (places (by ∷ []) m.0.seen ≡ [])

abbrev pub AppendsToLog : Call → Stp → Sat → ℕ → Sat → Type 0
AppendsToLog c s m n w = (w.0 ≡ appended m.0 c) × (w.1 ≡ m.1) × IsLegal w.0.seen
    × (places m.0.numbers w.0.seen ≡ places m.0.numbers m.0.seen ++ length m.0.seen ∷ [])
