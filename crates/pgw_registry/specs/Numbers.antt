-- The rule of the word, and what each step tells.
use Rattle.std.specs.Prelude.{◌≡◌, ◌⊎◌, ℕ, ◌+◌, ◌<◌, ◌≤◌, Bool, false, cond, eqb, ltb, leb, ◌||◌, min, max, List, [], ◌∷◌, ◌++◌, length, slice_index}
use mathlib.Core.Option.{some}
use lib.ListN.{get_elem?}
use Rattle.atomic_table.specs.Table.{State, Me, Step}
use Rattle.pgw_registry.specs.declared.numbers.Hand.{Hand}
use Rattle.pgw_registry.specs.declared.share.Share.{Share}
use Rattle.pgw_registry.specs.Shares.{IsWholeShare, everything, none, half, together, AddUp}

-- f of each, added up
abbrev pub total : (Hand → ℕ) → List Hand → ℕ
total f [] = 0
total f (v ∷ vs) = f v + total f vs

-- how often x stands in the list
abbrev pub times : ℕ → List ℕ → ℕ
times x [] = 0
times x (y ∷ ys) = cond (eqb y x) 1 0 + times x ys

-- how many of the numbers are no process numbers
abbrev pub above : List ℕ → ℕ
above [] = 0
above (y ∷ ys) = cond (ltb 2147483647 y) 1 0 + above ys

-- no number stands twice
abbrev pub IsDistinct : List ℕ → Type 0
IsDistinct xs = (x : ℕ) → times x xs ≤ 1

-- no number stands there that is below this one
abbrev pub NoneBelow : ℕ → List ℕ → Type 0
NoneBelow begins xs = (x : ℕ) → x < begins → times x xs ≡ 0

-- one where it holds
abbrev pub weight : Bool → ℕ
weight b = cond b 1 0

abbrev pub hand : ℕ → List ℕ → ℕ → ℕ → Bool → Share → Hand
hand begins drawn seen seats owes share =
    record {
      begins = begins;
      drawn = drawn;
      seen = seen;
      seats = seats;
      owes = owes;
      share =
          share;
    }

-- the first seat, of numbers that begin here
abbrev pub founder : ℕ → Hand
founder begins = hand begins [] 0 1 false everything

-- a seat that was made of another, with half of its share
abbrev pub newcomer : Hand → Hand
newcomer v = hand v.begins [] 0 1 false (half v.share)

-- a seat that another one took in
abbrev pub spent_hand : Hand
spent_hand = hand 0 [] 0 0 false none

-- the seat that was owed is made, so no seat is owed any more
abbrev pub with_seat_made : Hand → Hand
with_seat_made v = hand v.begins v.drawn v.seen v.seats false (half v.share)

-- what two seats know together
abbrev pub both_of : Hand → Hand → Hand
both_of v w =
    hand v.begins (v.drawn ++ w.drawn) (max v.seen w.seen) (v.seats + w.seats) (v.owes || w.owes)
    (together v.share w.share)

-- the word was seen
abbrev pub saw : Hand → ℕ → Hand
saw v n = hand v.begins v.drawn n v.seats v.owes v.share

-- a number was drawn
abbrev pub drew : Hand → ℕ → Bool → Hand
drew v n owes = hand v.begins (v.drawn ++ n ∷ []) n v.seats owes v.share

-- with the whole share, all numbers from the first one up to n were drawn by it
abbrev pub DrewAll : ℕ → List ℕ → Share → ℕ → Type 0
DrewAll begins drawn share n = IsWholeShare share → n ≡ begins + length drawn

-- a view without a share has drawn nothing, and the numbers of any other begin at the first
abbrev pub IsIdleOrBegins : ℕ → Hand → Type 0
IsIdleOrBegins first v =
    ((v.share.parts ≡ 0) × (v.drawn ≡ [])) ⊎ ((0 < v.share.parts) × (v.begins ≡ first))

-- The numbers from the first up to the word are drawn, each once, and no others.
-- The seats made and the marks set are together at most one more than the process numbers drawn, and no view has more numbers above them than seats. So the word never wraps
pub record KeepsProcessNumbers (first word : ℕ) (views : List Hand) : Type 0 where
  pub begins : first ≤ 2147483647
  pub grows : first ≤ word
  pub none : (x : ℕ) → (x < first) ⊎ (word ≤ x) → total (λ v. times x v.drawn) views ≡ 0
  pub once : (x : ℕ) → first ≤ x → x < word → total (λ v. times x v.drawn) views ≡ 1
  pub each : (i : ℕ) (v : Hand) → get_elem? views i ≡ some v
      → (v.seen ≤ word) × (above v.drawn ≤ v.seats) × (v.begins ≤ first)
  pub seated : total (λ v. v.seats + weight v.owes) views + first ≤ min word 2147483648 + 1
  pub over : total (λ v. above v.drawn) views + 2147483648 ≡ max word 2147483648
  pub counted : total (λ v. length v.drawn) views + first ≡ word
  pub shares : AddUp (λ (v : Hand). v.share) views
  pub sharing : (i : ℕ) (v : Hand) → get_elem? views i ≡ some v → IsIdleOrBegins first v

abbrev pub Ruled : ℕ → State (Unit {0}) Hand → Type 0
Ruled first s = (length s.words ≡ 1) × KeepsProcessNumbers first (slice_index s.words 0) s.views

abbrev Sat : Type 0
Sat = Me (Unit {0}) Hand

-- the word was seen. Where it is a process number, so is each number drawn
abbrev pub Looked : Step (Unit {0}) → Sat → ℕ → Sat → Type 0
Looked s m n w =
    (w.0 ≡ saw m.0 n) × (w.1 ≡ m.1) × (m.0.seen ≤ n) × (n ≤ 2147483647 → above m.0.drawn ≡ 0)
    × DrewAll m.0.begins m.0.drawn m.0.share n

-- the numbers that it holds were compared
abbrev pub Compared : Step (Unit {0}) → Sat → ℕ → Sat → Type 0
Compared s m n w =
    (w.0 ≡ m.0) × (w.1 ≡ m.1) × IsDistinct m.0.drawn × NoneBelow m.0.begins m.0.drawn

-- the number was drawn
abbrev pub DrewNumber : Step (Unit {0}) → Sat → ℕ → Sat → Type 0
DrewNumber s m n w =
    (w.0 ≡ drew m.0 n m.0.owes) × (w.1 ≡ m.1) × (m.0.seen ≤ n) × IsDistinct w.0.drawn
    × NoneBelow w.0.begins w.0.drawn × (m.0.begins ≤ n)
    × DrewAll m.0.begins m.0.drawn m.0.share n

-- the number was drawn for a seat, which is owed where it is a process number
abbrev pub DrewForSeat : Step (Unit {0}) → Sat → ℕ → Sat → Type 0
DrewForSeat s m n w =
    (w.0 ≡ drew m.0 n (leb n 2147483647)) × (w.1 ≡ m.1) × (m.0.seen ≤ n) × IsDistinct w.0.drawn
    × NoneBelow w.0.begins w.0.drawn × (m.0.begins ≤ n)
    × DrewAll m.0.begins m.0.drawn m.0.share n
