-- What comes of a stream that is mapped.
use Rattle.std.proofs.Common.{◌≡◌, List, Option, Some, None, sym}
use Rattle.std.specs.Option.{IsSomeAnd, MatchOption}
use Rattle.std.proofs.lemmas.Option.{none-some}
use Rattle.futures.specs.Runs.{Runs, Maps}

module _ {F A B : Type 0} (turn : F → A → B → F → Type 0) where
  -- an item that comes is what a turn makes of another
  pub record IsTurned (y : B) : Type 0 where
    pub was : F
    pub item : A
    pub after : F
    pub turned : turn was item y after

  turned_to : (q : F) (y : B) (next : Option A)
      → MatchOption next (◌≡◌ {A = Option B} (Some y) None)
      (λ x. (t : F) × IsSomeAnd (Some y) (λ z. turn q x z t))
      → IsTurned y
  turned_to q y None none = absurd (none-some y (sym none))
  turned_to q y (Some x) came = record { was = q; item = x; after = came.0; turned = came.1 }

  pub IsTurned-Maps : (source : Runs A) (f : F) (ys : List B) (y : B) → Maps turn source f ys (Some y)
      → IsTurned y
  IsTurned-Maps source f ys y m = turned_to m.state y m.next m.ends
