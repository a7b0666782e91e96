use Rattle.std.proofs.Common.{map, refl, ap, rules}
use Rattle.pgw_pool.specs.Views.{session_view, lease_count}
use Rattle.pgw_pool.proofs.HistoryLaws.{lends_first}
use Rattle.pgw_pool.proofs.LeaseCounts.{lends_counted}
use Rattle.pgw_pool.proofs.pool.Pool.lend.Goals as goal

pub returns-in-Some-clause-first : goal.returns-in-Some-clause-first
returns-in-Some-clause-first g c = λ hs are.
    let S = session_view g.L.Link.tape g.L.Link.faults in
    lends_first c.args.self.now.lent _ _ hs _ (map S c.pop_front.new.self.items) (S c.in-Some.session)
    (ap (map S) c.in-Some.ensures.items) refl refl are

pub returns-in-Some-clause-lent : goal.returns-in-Some-clause-lent
returns-in-Some-clause-lent g c = record {
  first = ap (map (session_view g.L.Link.tape g.L.Link.faults)) c.in-Some.ensures.items;
  below = search rules;
  counted = refl;
  numbered = refl;
}

pub returns-in-Some-clause-had : goal.returns-in-Some-clause-had
returns-in-Some-clause-had g c =
    (lease_count c.in-Some.session, ap (map lease_count) c.in-Some.ensures.items, c.saturating_add-leases.ensures)

pub returns-in-Some-clause-all_counted : goal.returns-in-Some-clause-all_counted
returns-in-Some-clause-all_counted g c = λ hs are.
    lends_counted hs (map lease_count c.args.self.now.idle.items) (map lease_count c.pop_front.new.self.items)
    c.saturating_add-leases.result
    (lease_count c.in-Some.session, ap (map lease_count) c.in-Some.ensures.items, c.saturating_add-leases.ensures)
    are
