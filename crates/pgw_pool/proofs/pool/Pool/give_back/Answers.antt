use Rattle.std.proofs.Common.{map, refl, sym, subst}
use Rattle.pgw_pool.specs.Views.{view_of, session_view, lease_count}
use Rattle.pgw_pool.specs.Returning.{GivenBack}
use Rattle.pgw_pool.specs.declared.returned.Returned.TheVariants.{Kept, Dropped}
use Rattle.pgw_pool.proofs.ReturnLaws.{given_back, drops_from, gives_foretold}
use Rattle.pgw_pool.proofs.LeaseCounts.{back_counted}
use Rattle.pgw_pool.proofs.pool.Pool.give_back.Goals as goal

pub returns-in-Kept-clause-gives_back : goal.returns-in-Kept-clause-gives_back
returns-in-Kept-clause-gives_back g c =
    let V = view_of g.L.Link.tape g.L.Link.faults in
    let e = c.in-Kept.ensures.asked in
    (V c.reset.new.client, e.0, e.1, e.2, c.keep.ensures.idle)

pub returns-in-Kept-clause-foretold : goal.returns-in-Kept-clause-foretold
returns-in-Kept-clause-foretold g c = λ t.
    let V = view_of g.L.Link.tape g.L.Link.faults in
    let e = c.in-Kept.ensures.asked in
    gives_foretold _ _ (V c.args.lease.client) (V c.reset.new.client) _ _ _ _ Kept e.0 e.1 e.2
    (c.in-Kept.ensures.foretold t) c.keep.ensures.idle c.keep.ensures.lefts

pub returns-in-Kept-clause-given : goal.returns-in-Kept-clause-given
returns-in-Kept-clause-given g c = λ hs h l are lease own.
    let V = view_of g.L.Link.tape g.L.Link.faults in
    let S = session_view g.L.Link.tape g.L.Link.faults in
    let e = c.in-Kept.ensures.asked in
    subst (λ n. GivenBack n hs h l (map S c.keep.new.self.idle.items) Kept) (sym c.keep.ensures.lent)
    (given_back c.args.self.now.lent hs h l (V c.args.lease.client) (map S c.args.self.now.idle.items)
    (map S c.keep.new.self.idle.items) Kept
    (V c.reset.new.client, e.0, e.1, e.2, c.keep.ensures.idle) are lease own)

pub returns-in-Dropped-clause-gives_back : goal.returns-in-Dropped-clause-gives_back
returns-in-Dropped-clause-gives_back g c =
    let V = view_of g.L.Link.tape g.L.Link.faults in
    let e = c.in-Dropped.ensures.asked in
    (V c.reset.new.client, e.0, e.1, e.2, refl)

pub returns-in-Dropped-clause-foretold : goal.returns-in-Dropped-clause-foretold
returns-in-Dropped-clause-foretold g c = λ t.
    let V = view_of g.L.Link.tape g.L.Link.faults in
    let e = c.in-Dropped.ensures.asked in
    gives_foretold _ _ (V c.args.lease.client) (V c.reset.new.client) _ _ _ _ (Dropped c.in-Dropped.cause) e.0 e.1
    e.2 (c.in-Dropped.ensures.foretold t) refl refl

pub returns-in-Dropped-clause-given : goal.returns-in-Dropped-clause-given
returns-in-Dropped-clause-given g c = λ hs h l are lease own.
    let V = view_of g.L.Link.tape g.L.Link.faults in
    let S = session_view g.L.Link.tape g.L.Link.faults in
    let e = c.in-Dropped.ensures.asked in
    given_back c.args.self.now.lent hs h l (V c.args.lease.client) (map S c.args.self.now.idle.items)
    (map S c.args.self.now.idle.items) (Dropped c.in-Dropped.cause)
    (V c.reset.new.client, e.0, e.1, e.2, refl) are lease own

pub returns-in-Dropped-clause-dropped : goal.returns-in-Dropped-clause-dropped
returns-in-Dropped-clause-dropped g c = λ h l lease.
    let V = view_of g.L.Link.tape g.L.Link.faults in
    let S = session_view g.L.Link.tape g.L.Link.faults in
    let e = c.in-Dropped.ensures.asked in
    drops_from h l (V c.args.lease.client) (map S c.args.self.now.idle.items) (map S c.args.self.now.idle.items)
    (Dropped c.in-Dropped.cause) (V c.reset.new.client, e.0, e.1, e.2, refl) lease

pub returns-in-Kept-clause-all_counted : goal.returns-in-Kept-clause-all_counted
returns-in-Kept-clause-all_counted g c = λ hs h l are is.
    back_counted hs h l (map lease_count c.args.self.now.idle.items) (map lease_count c.keep.new.self.idle.items)
    c.args.lease.leases Kept c.keep.ensures.had are is

pub returns-in-Dropped-clause-all_counted : goal.returns-in-Dropped-clause-all_counted
returns-in-Dropped-clause-all_counted g c = λ hs h l are is.
    back_counted hs h l (map lease_count c.args.self.now.idle.items) (map lease_count c.args.self.now.idle.items)
    c.args.lease.leases (Dropped c.in-Dropped.cause) refl are is
