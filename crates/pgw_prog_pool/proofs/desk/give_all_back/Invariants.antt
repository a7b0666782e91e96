use Rattle.std.proofs.Common.{length}
use Rattle.pgw_prog_pool.specs.Standing.{PoolStanding, AllBack}
use Rattle.pgw_prog_pool.specs.Views.{pool_standing, HasRoom}
use Rattle.pgw_prog_pool.proofs.desk.give_all_back.Given as goal

abbrev pub invariant-leases : goal.invariant-leases
invariant-leases l =
    HasRoom l.pool l.out.items
    × ((last : PoolStanding) → AllBack (pool_standing l.pool l.out.items) last → AllBack
    (pool_standing l.fn.pool l.fn.out.items) last)

abbrev pub decreases-leases : goal.decreases-leases
decreases-leases l = length l.out.items
