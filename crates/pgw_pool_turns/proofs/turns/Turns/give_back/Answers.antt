use Rattle.std.proofs.Common.{◌≡◌}
use Rattle.pgw_pool_turns.specs.Desks.{TakesBack, TakesNone}
use Rattle.pgw_pool_turns.proofs.DeskLaws.{but_for}
use Rattle.pgw_pool_turns.proofs.turns.Turns.give_back.Goals as goal

pub returns : goal.returns
returns g c =
    let old = c.deref_mut.result.now in
    let new = c.put-taken.new.self in
    let refuses = g.S.Stock.refuses in
    let taken = TakesBack g.S.Stock.takes refuses c.args.back old new in (
      old,
      new,
      c.put-taken.ensures.counted,
      but_for taken (TakesNone refuses c.args.back old) (new ≡ old) c.put-taken.result c.put-taken.ensures.taken,
    )
