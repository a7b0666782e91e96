use Rattle.std.proofs.Common.{◌≡◌}
use Rattle.pgw_pool_turns.specs.Standings.{lost}
use Rattle.pgw_pool_turns.specs.Desks.{desk_held, TakesBack, TakesNone}
use Rattle.pgw_pool_turns.proofs.DeskLaws.{but_for}
use Rattle.pgw_pool_turns.proofs.turns.Turns.fill.Goals as goal

pub returns : goal.returns
returns g c =
    let old = c.deref_mut.result.now in
    let new = c.fill-filled.new.self in
    let refuses = g.S.Stock.refuses in
    let same = new ≡ desk_held old.stock (lost old.counts) in
    let taken = TakesBack g.S.Stock.takes refuses c.args.back old new in (
      old,
      new,
      c.fill-filled.ensures.counted,
      but_for taken (TakesNone refuses c.args.back old) same c.fill-filled.result c.fill-filled.ensures.taken,
    )
