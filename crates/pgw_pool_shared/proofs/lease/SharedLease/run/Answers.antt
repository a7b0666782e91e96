use Rattle.std.proofs.Common.{sym, subst, ap, ℕ}
use Rattle.pgw_pool.specs.Views.{lease_number, lease_view}
use Rattle.pgw_pool.specs.Stocks.{leased, IsOut}
use Rattle.pgw_pool_shared.proofs.ShelfLaws.{goes_on}
use Rattle.pgw_pool_shared.proofs.lease.SharedLease.run.Goals as goal

still_out : goal.invariant_of-self
still_out g c =
    let V = lease_view g.L.Link.tape g.L.Link.faults in
    let e = c.run.ensures in
    subst (λ (n : ℕ). IsOut n (leased n (V c.run.new.self))) (sym e.number)
    (goes_on (lease_number c.self.inside.lease) c.args.request.now (V c.self.inside.lease) (V c.run.new.self)
    c.run.result
    (record { broken = λ b. ((e.broken b).0, ap V (e.broken b).1); asks = e.asks }) c.self.invariant)

pub invariant_of-self : goal.invariant_of-self
invariant_of-self g c = still_out g c

pub returns-clause-out : goal.returns-clause-out
returns-clause-out g c = still_out g c
