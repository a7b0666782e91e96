use Rattle.std.proofs.Common.{[], ◌∷◌, refl, arith}
use Rattle.pgw_pool.specs.Views.{view_of}
use Rattle.pgw_pool.specs.declared.returned.Returned.TheVariants.{Kept, Dropped}
use Rattle.pgw_pool.proofs.ReturnLaws.{given_back, drops_from, gives_foretold}
use Rattle.pgw_pool.proofs.LeaseCounts.{lease_had}
use Rattle.pgw_pool.proofs.lease.Lease.reset.Goals as goal

pub returns-in-Kept-clause-gives_back : goal.returns-in-Kept-clause-gives_back
returns-in-Kept-clause-gives_back g c =
    let V = view_of g.L.Link.tape g.L.Link.faults in
    let e = c.in-Kept.ensures.asked in
    (V c.reset.new.client, e.0, e.1, e.2, refl)

pub returns-in-Kept-clause-over : goal.returns-in-Kept-clause-over
returns-in-Kept-clause-over g c = λ h l lease.
    let V = view_of g.L.Link.tape g.L.Link.faults in
    let e = c.in-Kept.ensures.asked in
    let given =
    given_back l.number [] h l (V c.args.self.client) [] (V c.reset.new.client ∷ []) Kept
    (V c.reset.new.client, e.0, e.1, e.2, refl) tt lease (omega arith) in
    (given.0, (given.1).0)

pub returns-in-Kept-clause-all_counted : goal.returns-in-Kept-clause-all_counted
returns-in-Kept-clause-all_counted g c = λ h l is es. lease_had h l es c.args.self.leases is

pub returns-in-Dropped-clause-gives_back : goal.returns-in-Dropped-clause-gives_back
returns-in-Dropped-clause-gives_back g c =
    let V = view_of g.L.Link.tape g.L.Link.faults in
    let e = c.in-Dropped.ensures.asked in
    (V c.reset.new.client, e.0, e.1, e.2, refl)

pub returns-in-Kept-clause-foretold : goal.returns-in-Kept-clause-foretold
returns-in-Kept-clause-foretold g c = λ t.
    let V = view_of g.L.Link.tape g.L.Link.faults in
    let e = c.in-Kept.ensures.asked in
    gives_foretold _ _ (V c.args.self.client) (V c.reset.new.client) _ _ _ _ Kept e.0 e.1 e.2
    (c.in-Kept.ensures.foretold t) refl refl

pub returns-in-Dropped-clause-foretold : goal.returns-in-Dropped-clause-foretold
returns-in-Dropped-clause-foretold g c = λ t.
    let V = view_of g.L.Link.tape g.L.Link.faults in
    let e = c.in-Dropped.ensures.asked in
    gives_foretold _ _ (V c.args.self.client) (V c.reset.new.client) _ _ _ _ (Dropped c.in-Dropped.cause) e.0 e.1
    e.2 (c.in-Dropped.ensures.foretold t) refl refl

pub returns-in-Dropped-clause-dropped : goal.returns-in-Dropped-clause-dropped
returns-in-Dropped-clause-dropped g c = λ h l lease.
    let V = view_of g.L.Link.tape g.L.Link.faults in
    let e = c.in-Dropped.ensures.asked in
    drops_from h l (V c.args.self.client) [] [] (Dropped c.in-Dropped.cause)
    (V c.reset.new.client, e.0, e.1, e.2, refl) lease
