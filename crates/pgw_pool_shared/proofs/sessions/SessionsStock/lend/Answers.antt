use Rattle.std.proofs.Common.{List, sym, subst, IfSome}
use Rattle.pgw_pool.specs.declared.pool.Pool.{Pool}
use Rattle.pgw_pool.specs.Histories.{History, AreIdle}
use Rattle.pgw_pool.specs.Views.{idle_in, lent_by}
use Rattle.pgw_pool_shared.specs.Shelves.{IsNewLease}
use Rattle.pgw_pool_shared.proofs.ShelfLaws.{begins, new_lease, others}
use Rattle.pgw_pool_shared.proofs.sessions.SessionsStock.lend.Goals as goal
use Rattle.pgw_pool_shared.proofs.sessions.SessionsStock.lend.Goals.{in-Ok, in-Err}

pub invariant_of-result : goal.invariant_of-result
invariant_of-result g c =
    begins _ _ c.self.invariant.0 _ _ (c.in-Ok.ensures.first c.self.invariant.0 c.self.invariant.1)

pub invariant_of-self : goal.invariant_of-self
invariant_of-self g c =
    elim c.match-lend.branch [
      | in-Ok w ↦ others _ _ c.self.invariant.0 _ _ (w.in-Ok.ensures.first c.self.invariant.0 c.self.invariant.1)
      | in-Err w ↦ let P : Pool g.row.L.Denot g.L.Link → Type 0 =
          λ pool. (hs : List History) × AreIdle (lent_by pool) hs (idle_in g.L.Link.tape g.L.Link.faults pool) in
          subst P (sym w.in-Err.ensures.same) c.self.invariant
    ]

pub returns-clause-fresh : goal.returns-clause-fresh
returns-clause-fresh g c =
    elim c.match-lend.branch [
      | in-Ok w ↦ subst (λ r. IfSome r IsNewLease) (sym w.result-is)
          (new_lease _ _ _ _ c.self.invariant.0 _ _ w.in-Ok.ensures.lent
          (w.in-Ok.ensures.first c.self.invariant.0 c.self.invariant.1))
      | in-Err w ↦ subst (λ r. IfSome r IsNewLease) (sym w.result-is) tt
    ]
