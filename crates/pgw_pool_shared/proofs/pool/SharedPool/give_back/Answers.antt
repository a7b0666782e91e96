use Rattle.std.proofs.Common.{ℕ, List, [], ◌∷◌, subst, sym}
use Rattle.pgw_pool.specs.declared.returned.Returned.TheVariants.{Kept, Dropped}
use Rattle.pgw_pool.specs.Histories.{View, IsIdleInPool}
use Rattle.pgw_pool.specs.Returning.{GivesBack}
use Rattle.pgw_pool.specs.Spares.{spare_view}
use Rattle.pgw_pool.specs.Stocks.{Out}
use Rattle.pgw_pool.specs.Views.{lease_number, lease_view}
use Rattle.pgw_pool_shared.proofs.ShelfLaws.{comes_back}
use Rattle.pgw_pool_shared.proofs.pool.SharedPool.give_back.Goals as goal

pub returns-then-give_back : goal.returns-then-give_back
returns-then-give_back g c =
    let P : Out → Type 0 = λ o. (now : List View) × GivesBack o.view [] now Kept in
    subst P c.lease.view_is
    (spare_view g.L.Link.tape g.L.Link.faults c.in-Ok.spare ∷ [], c.in-Ok.ensures.gives_back)

pub returns-else-give_back : goal.returns-else-give_back
returns-else-give_back g c =
    let P : Out → Type 0 = λ o. (now : List View) × GivesBack o.view [] now Kept in
    subst P c.lease.view_is
    (spare_view g.L.Link.tape g.L.Link.faults c.in-Ok.spare ∷ [], c.in-Ok.ensures.gives_back)

pub returns-in-Err : goal.returns-in-Err
returns-in-Err g c =
    let P : Out → Type 0 = λ o. (now : List View) × GivesBack o.view [] now (Dropped c.in-Err.cause) in
    subst P c.lease.view_is ([], c.in-Err.ensures.gives_back)

pub invariant_of-give_back : goal.invariant_of-give_back
invariant_of-give_back g c =
    let tape = g.L.Link.tape in
    let faults = g.L.Link.faults in
    let v = spare_view tape faults c.in-Ok.spare in
    let back =
    comes_back (lease_number c.lease.inside.lease) (lease_view tape faults c.lease.inside.lease) v
    c.in-Ok.ensures.gives_back c.lease.invariant in
    (back.0, subst (λ (n : ℕ). IsIdleInPool n back.0 v) (sym c.in-Ok.ensures.number) back.1)
