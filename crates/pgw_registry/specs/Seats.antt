-- What contracts see of a seat.
use Rattle.std.specs.Prelude.{◌≡◌, ℕ, ◌<◌, false, List, []}
use Rattle.atomic_table.specs.Table.{Me}
use Rattle.atomic_table.specs.Seated.{TableId}
use Rattle.pgw_registry.specs.declared.numbers.Hand.{Hand}
use Rattle.pgw_registry.specs.declared.share.Share.{Share}
use Rattle.pgw_registry.specs.Shares.{IsSomeShare}
use Rattle.pgw_registry.specs.Numbers.{IsDistinct, NoneBelow}

-- whose seat it is, where the numbers begin, the numbers that it drew, the greatest that it has
-- loaded or drawn, and its share of all numbers
pub record Numbers : Type 0 where
  pub of : TableId
  pub begins : ℕ
  pub drawn : List ℕ
  pub seen : ℕ
  pub share : Share

-- a seat that holds nothing but its view, and owes no seat
abbrev pub IsSeated : Me (Unit {0}) Hand → Type 0
IsSeated me =
    (me.1 ≡ []) × (0 < me.0.seats) × (me.0.owes ≡ false) × IsDistinct me.0.drawn
    × NoneBelow me.0.begins me.0.drawn × IsSomeShare me.0.share
