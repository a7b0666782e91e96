use Rattle.std.proofs.Common.{map}
use Rattle.pgw_pool.specs.Views.{view_of, session_view, lease_count}
use Rattle.pgw_pool.proofs.SpareLaws.{idle_joins}
use Rattle.pgw_pool.proofs.LeaseCounts.{one_joins}
use Rattle.pgw_pool.proofs.pool.Pool.put.Goals as goal

pub returns-then-number-eq0-clause-stands : goal.returns-then-number-eq0-clause-stands
returns-then-number-eq0-clause-stands g c = λ hs h are idle own.
    let V = view_of g.L.Link.tape g.L.Link.faults in
    let S = session_view g.L.Link.tape g.L.Link.faults in
    idle_joins c.args.spare.number c.args.self.now.lent c.keep.new.self.lent hs h
    (map S c.args.self.now.idle.items) (map S c.keep.new.self.idle.items) (V c.args.spare.client)
    c.keep.ensures.lent c.keep.ensures.idle own are idle

pub returns-else-number-eq0-clause-stands : goal.returns-else-number-eq0-clause-stands
returns-else-number-eq0-clause-stands g c = λ hs h are idle own.
    let V = view_of g.L.Link.tape g.L.Link.faults in
    let S = session_view g.L.Link.tape g.L.Link.faults in
    idle_joins c.args.spare.number c.args.self.now.lent c.keep-else-number-eq0.new.self.lent hs h
    (map S c.args.self.now.idle.items) (map S c.keep-else-number-eq0.new.self.idle.items)
    (V c.args.spare.client) c.keep-else-number-eq0.ensures.lent c.keep-else-number-eq0.ensures.idle own
    are idle

pub returns-then-number-eq0-clause-all_counted : goal.returns-then-number-eq0-clause-all_counted
returns-then-number-eq0-clause-all_counted g c = λ hs h are is.
    one_joins hs h (map lease_count c.args.self.now.idle.items) (map lease_count c.keep.new.self.idle.items)
    c.args.spare.leases c.keep.ensures.had are is

pub returns-else-number-eq0-clause-all_counted : goal.returns-else-number-eq0-clause-all_counted
returns-else-number-eq0-clause-all_counted g c = λ hs h are is.
    one_joins hs h (map lease_count c.args.self.now.idle.items)
    (map lease_count c.keep-else-number-eq0.new.self.idle.items) c.args.spare.leases
    c.keep-else-number-eq0.ensures.had are is
