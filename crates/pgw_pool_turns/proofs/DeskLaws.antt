-- What a call of a shared desk tells.
use Rattle.std.proofs.Common.{◌≡◌, ◌↔◌, Bool, true, false, IsTrue, MatchBool, Option, Some, None, inl, inr}
use Rattle.std.specs.Option.{ok_or}
use Rattle.pgw_pool_turns.specs.declared.turns.LendRefusal.TheVariants.{Exhausted}
use Rattle.pgw_pool_turns.specs.declared.waiting.JoinError.{JoinError}
use Rattle.pgw_pool_turns.specs.declared.waiting.JoinError.TheVariants as join
use Rattle.pgw_pool_turns.specs.Rows.{JoinsNone}
use Rattle.pgw_pool_turns.specs.Standings.{IsFree}
use Rattle.pgw_pool_turns.specs.Desks.{TurnStock, MayServe, DeskLendsFirst, LendsNothing, Lending, refusal_for}

pub but_for : (P Q R : Type 0) (b : Bool) → MatchBool b P (Q × R) → MatchBool b P Q
but_for P Q R true m = m
but_for P Q R false m = m.0

pub but_behind : (P Q R S : Type 0) (b : Bool) → MatchBool b (P × Q) (R × S) → MatchBool b P S
but_behind P Q R S true m = m.0
but_behind P Q R S false m = m.1

pub not_so : {P : Type 0} (b : Bool) → b ≡ false → (IsTrue b ↔ P) → ¬ P
not_so b is iff p = let t : b ≡ true = iff.1 p in cc

-- its turn came, or none waited
pub is_served : {S Lent : Type 0} (lends : S → S → Lent → Type 0) (is_spent : S → Type 0)
    (old new : TurnStock S) (one : Option Lent)
    → MayServe old → DeskLendsFirst lends is_spent old new one → Lending lends is_spent old new (ok_or one Exhausted)
is_served lends is_spent old new (Some x) may l = (may, l)
is_served lends is_spent old new None may l = inl (may, l.0)

-- no ticket was given
pub has_no_ticket : {S : Type 0} (is_spent : S → Type 0) (d : TurnStock S) (e : JoinError)
    → ¬ IsFree d.counts → JoinsNone d.counts.row e → LendsNothing is_spent d (refusal_for e)
has_no_ticket is_spent d join.Full busy j = (busy, j)
has_no_ticket is_spent d join.Exhausted busy j = inr (busy, j)
