use Rattle.pgw_pool.specs.Spares.{spare_view}
use Rattle.pgw_pool_shared.proofs.pool.SharedPool.refill.Goals as goal

pub returns-else-fill-clause-refilled : goal.returns-else-fill-clause-refilled
returns-else-fill-clause-refilled g c =
    (spare_view g.L.Link.tape g.L.Link.faults c.in-Ok.spare, c.in-Ok.ensures.connected)
