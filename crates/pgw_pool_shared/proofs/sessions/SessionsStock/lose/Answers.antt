use Rattle.pgw_pool_shared.proofs.ShelfLaws.{same_idle}
use Rattle.pgw_pool_shared.proofs.sessions.SessionsStock.lose.Goals as goal

pub invariant_of-self : goal.invariant_of-self
invariant_of-self g c = same_idle _ _ _ _ c.lose.ensures.lent c.lose.ensures.idle c.self.invariant
