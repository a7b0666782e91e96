-- What contracts see of a pass.
use Rattle.std.specs.Prelude.{◌≡◌, ℕ, ◌+◌, ◌<◌, true, false, List, [], ◌∷◌, ◌++◌, length}
use Rattle.atomic_table.specs.Seated.{TableId}
use Rattle.pgw_registry.specs.declared.call.Call.{Call}
use Rattle.pgw_registry.specs.declared.call.Reply.{Reply}
use Rattle.pgw_registry.specs.declared.call.Entry.{Entry}
use Rattle.pgw_registry.specs.declared.call.Reply.TheVariants.{NoHandle, NoQuery}
use Rattle.pgw_registry.specs.declared.error.LookError.{LookError}
use Rattle.pgw_registry.specs.declared.error.LookError.TheVariants as look
use Rattle.pgw_registry.specs.declared.error.RegistryError.{RegistryError}
use Rattle.pgw_registry.specs.declared.error.RegistryError.TheVariants.{Gone, Exhausted, OutOfMemory}
use Rattle.pgw_registry.specs.declared.sight.Sight.{Sight}
use Rattle.pgw_registry.specs.Sequential.{IsLegal}
use Rattle.pgw_registry.specs.declared.share.Share.{Share}
use Rattle.pgw_registry.specs.Shares.{IsSomeShare, IsWithinWhole, everything, half, together}
use Rattle.pgw_registry.specs.History.{Apart, BeginsLog, HasAll, entry, places, held}

-- whose pass it is, its number, the numbers of the calls that count as its own, its share of all calls, and the history that it has seen
pub record Known : Type 0 where
  pub of : TableId
  pub own : ℕ
  pub numbers : List ℕ
  pub share : Share
  pub seen : List Entry

-- the places of its own calls
abbrev pub mine : Known → List ℕ
mine p = places p.numbers p.seen

-- It has seen a legal history, and has a share. With the whole share, it counts each call of that history as its own
abbrev pub IsPass : Sight → Type 0
IsPass v =
    (v.turn ≡ false) × (v.named ≡ true) × (held v.own v.numbers ≡ true) × IsLegal v.seen
    × IsSomeShare v.share × IsWithinWhole v.share × HasAll v.share v.numbers v.seen

-- with the whole share, it counts each call of the history as its own
abbrev pub CountsAll : Known → Type 0
CountsAll p = HasAll p.share p.numbers p.seen

-- the same pass
abbrev pub IsSamePass : Known → Known → Type 0
IsSamePass v w = (w.of ≡ v.of) × (w.own ≡ v.own) × (w.numbers ≡ v.numbers) × (w.share ≡ v.share)

-- no call was made. What was seen is a legal history that begins with what had been seen
abbrev pub Sees : Known → Known → Type 0
Sees v w =
    IsSamePass v w × BeginsLog v.seen w.seen × (mine w ≡ mine v) × IsLegal w.seen × CountsAll w

-- the call was made, with this reply: it is the last of a legal history that begins with what had been seen, and the one more of its own calls
abbrev pub Makes : Call → Reply → Known → Known → Type 0
Makes c r v w =
    IsSamePass v w × IsLegal w.seen
    × ((before : List Entry) × (length before < 18446744073709551615) × BeginsLog v.seen before ×
    (w.seen ≡ before ++ entry v.own c r ∷ []) × (mine w ≡ mine v ++ length before ∷ []))
    × CountsAll w

-- the table has two words and one slot
abbrev pub IsDesk : TableId → Type 0
IsDesk t = (t.words ≡ 2) × (t.slots ≡ 1)

abbrev pub first_pass : TableId → Known
first_pass t = record { of = t; own = 0; numbers = 0 ∷ []; share = everything; seen = [] }

-- the pass gave half of its share away
abbrev pub halved : Known → Known
halved v = record v { share = half v.share }

-- Gone is a reply. The count is full, or memory was wanting: then no call was made
abbrev pub Refused : RegistryError → Call → Known → Known → Type 0
Refused Gone c v w = Makes c NoHandle v w
Refused Exhausted c v w = Sees v w × (length w.seen ≡ 18446744073709551615)
Refused OutOfMemory c v w = Sees v w × (length w.seen < 18446744073709551615)

abbrev pub Full : Known → Known → Type 0
Full v w = Sees v w × (length w.seen ≡ 18446744073709551615)

-- the refusals of a call that needs memory and has no number, of one that has a number and needs none, and of one that has neither
abbrev pub PassCannotGrow : RegistryError → Known → Known → Type 0
PassCannotGrow Gone v w = ⊥
PassCannotGrow Exhausted v w = Full v w
PassCannotGrow OutOfMemory v w = Sees v w × (length w.seen < 18446744073709551615)

abbrev pub Struck : RegistryError → Call → Known → Known → Type 0
Struck Gone c v w = Makes c NoHandle v w
Struck Exhausted c v w = Full v w
Struck OutOfMemory c v w = ⊥

abbrev pub OnlyFull : RegistryError → Known → Known → Type 0
OnlyFull Gone v w = ⊥
OnlyFull Exhausted v w = Full v w
OnlyFull OutOfMemory v w = ⊥

abbrev pub NotLooked : LookError → Call → Known → Known → Type 0
NotLooked look.Canceled c v w = Makes c NoQuery v w
NotLooked look.Exhausted c v w = Full v w

-- v took u in and became w: it has seen what both had seen, in one legal history, which has those calls of either that had stood in what it had seen.
-- They are w's own calls, and no others are
abbrev pub TakesInView : Known → Known → Known → Type 0
TakesInView v u w =
    (w.of ≡ v.of) × (w.own ≡ v.own) × (w.numbers ≡ v.numbers ++ u.numbers)
    × (w.share ≡ together v.share u.share) × IsLegal w.seen
    × BeginsLog v.seen w.seen × BeginsLog u.seen w.seen
    × Apart v.numbers u.numbers × (places v.numbers w.seen ≡ mine v)
    × (places u.numbers w.seen ≡ mine u)
    × (length (mine w) ≡ length (mine v) + length (mine u)) × CountsAll w
