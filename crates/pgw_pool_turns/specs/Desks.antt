-- A desk with its stock.
use Rattle.std.specs.Prelude.{◌≡◌, ◌⊎◌, ◌<◌, ℕ, Option, Some, None, Result, Ok, Err}
use Rattle.pgw_pool_turns.specs.declared.turns.LendRefusal.{LendRefusal}
use Rattle.pgw_pool_turns.specs.declared.turns.LendRefusal.TheVariants.{TimedOut, Crowded, Exhausted}
use Rattle.pgw_pool_turns.specs.declared.waiting.JoinError.{JoinError}
use Rattle.pgw_pool_turns.specs.declared.waiting.JoinError.TheVariants as join
use Rattle.pgw_pool_turns.specs.Rows.{JoinsNone}
use Rattle.pgw_pool_turns.specs.Standings.{TurnDesk, IsWithinRoom, IsFree, IsTurn, after_lent_turn, after_empty_turn, put, lost}

-- the stock, and the counts with those who wait
pub record TurnStock (S : Type 0) : Type 0 where
  pub stock : S
  pub counts : TurnDesk

-- what a refused ticket is to who came for a thing
abbrev pub refusal_for : JoinError → LendRefusal
refusal_for join.Full = Crowded
refusal_for join.Exhausted = Exhausted

module _ {S : Type 0} where
  abbrev pub desk_held : S → TurnDesk → TurnStock S
  desk_held stock counts = record { stock = stock; counts = counts }

  -- the counts are those of the stock, and of no more than there is room for
  abbrev pub IsDeskCounted : (S → ℕ) → (S → ℕ) → TurnStock S → Type 0
  IsDeskCounted ready room d =
      (d.counts.ready ≡ ready d.stock) × (d.counts.room ≡ room d.stock) × IsWithinRoom d.counts

  -- ---- calls

  -- One of the stock's things is lent; or none, and the stock stays: exactly where it is spent.
  abbrev pub DeskLendsFirst : {Lent : Type 0} → (S → S → Lent → Type 0) → (S → Type 0) →
      TurnStock S → TurnStock S → Option Lent → Type 0
  DeskLendsFirst lends is_spent old new (Some one) =
      (¬ is_spent old.stock) × lends old.stock new.stock one
      × (new.counts ≡ after_lent_turn old.counts)
  DeskLendsFirst lends is_spent old new None =
      is_spent old.stock × (new ≡ desk_held old.stock (after_empty_turn old.counts))

  -- the stock takes a thing that was out
  abbrev pub TakesBack : {Back : Type 0} → (S → Back → S → Type 0) → (S → Back → Type 0) →
      Back → TurnStock S → TurnStock S → Type 0
  TakesBack takes refuses back old new =
      (0 < old.counts.out) × (¬ refuses old.stock back) × takes old.stock back new.stock
      × (new.counts ≡ put old.counts)

  -- why it does not: none is out; or one is, and the stock refuses this one
  abbrev pub TakesNone : {Back : Type 0} → (S → Back → Type 0) → Back → TurnStock S → Type 0
  TakesNone refuses back d =
      (d.counts.out ≡ 0) ⊎ ((0 < d.counts.out) × refuses d.stock back)

  -- one that was out is lost to the stock; or none was out, and all stays
  abbrev pub LosesOne : (S → S → Type 0) → TurnStock S → TurnStock S → Type 0
  LosesOne loses old new =
      ((old.counts.out ≡ 0) × (new ≡ old))
      ⊎ ((0 < old.counts.out) × loses old.stock new.stock × (new.counts ≡ lost old.counts))

  -- ---- a desk that is shared, at one moment

  -- who comes while nobody waits may be served, or who has the first ticket
  abbrev pub MayServe : TurnStock S → Type 0
  MayServe d = IsFree d.counts ⊎ ((ticket : ℕ) × IsTurn ticket d.counts)

  -- why nothing is lent
  abbrev pub LendsNothing : (S → Type 0) → TurnStock S → LendRefusal → Type 0
  LendsNothing is_spent d TimedOut = (ticket : ℕ) × (¬ IsTurn ticket d.counts)
  LendsNothing is_spent d Crowded = (¬ IsFree d.counts) × JoinsNone d.counts.row join.Full
  LendsNothing is_spent d Exhausted =
      (MayServe d × is_spent d.stock)
      ⊎ ((¬ IsFree d.counts) × JoinsNone d.counts.row join.Exhausted)

  -- what a call for a thing comes to
  abbrev pub Lending : {Lent : Type 0} → (S → S → Lent → Type 0) → (S → Type 0) →
      TurnStock S → TurnStock S → Result Lent LendRefusal → Type 0
  Lending lends is_spent old new (Ok one) =
      MayServe old × DeskLendsFirst lends is_spent old new (Some one)
  Lending lends is_spent old new (Err e) = LendsNothing is_spent old e
