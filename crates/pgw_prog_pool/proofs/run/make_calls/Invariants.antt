use Rattle.std.proofs.Common.{take}
use Rattle.pgw_prog_pool.specs.Views.{pool_standing, HasRoom, Printed}
use Rattle.pgw_prog_pool.proofs.run.make_calls.Given as goal

abbrev pub invariant-loop-at : goal.invariant-loop-at
invariant-loop-at l =
    HasRoom l.pool l.out.items
    × Printed (pool_standing l.fn.pool l.fn.out.items) (take l.at l.calls) (pool_standing l.pool l.out.items)
    l.fn.text.items l.text.items
