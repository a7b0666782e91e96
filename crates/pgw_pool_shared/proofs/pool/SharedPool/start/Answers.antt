use Rattle.std.proofs.Common.{inl, inr, refl}
use Rattle.pgw_pool.specs.Views.{idle_in}
use Rattle.pgw_pool_shared.proofs.pool.SharedPool.start.Goals as goal

pub returns-in-Err-clause-refused : goal.returns-in-Err-clause-refused
returns-in-Err-clause-refused g c = inl c.in-Err.ensures.refused

pub returns-in-Err-new-clause-refused : goal.returns-in-Err-new-clause-refused
returns-in-Err-new-clause-refused g c =
    inr (refl, idle_in g.L.Link.tape g.L.Link.faults c.in-Ok.pool, c.in-Ok.ensures.connected)
