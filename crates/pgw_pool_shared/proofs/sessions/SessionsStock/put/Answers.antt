use Rattle.std.proofs.Common.{[], ◌∷◌, ◌++◌, ◌≡◌, ◌<◌, ◌≤◌, ◌+◌, length, arith, subst}
use Rattle.pgw_pool.specs.Views.{idle_in, lent_by, out_by, room_of}
use Rattle.pgw_pool.specs.Spares.{last_lease, spare_view}
use Rattle.pgw_pool_shared.specs.Pools.{shelf_of}
use Rattle.pgw_pool_shared.specs.Shelves.{Shelf, Rested, rested, TakesSession, RefusesSession}
use Rattle.pgw_pool_shared.proofs.ShelfLaws.{not_refused}
use Rattle.pgw_pool_shared.proofs.sessions.SessionsStock.put.Goals as goal
use Rattle.pgw_pool_shared.proofs.sessions.SessionsStock.put.Goals.{else-number-eq0-via-then-number-eq0+else-idle-out, else-number-eq0-via-else-number-eq0}

pub put-requires-clause-new : goal.put-requires-clause-new
put-requires-clause-new g c =
    elim c.else-number-eq0.branch [
      | else-number-eq0-via-then-number-eq0+else-idle-out w ↦ λ new. omega
          (arith, w.idle.ensures.counts, w.out.ensures.counts, w.capacity.ensures, w.if-idle-out.false)
      | else-number-eq0-via-else-number-eq0 w ↦ λ new. omega
          (arith, c.number-number.ensures, w.if-number-eq0.false)
    ]

pub invariant_of-self : goal.invariant_of-self
invariant_of-self g c =
    let own : last_lease c.back.inside.spare ≤ lent_by c.self.inside.pool =
    omega (arith, c.if-number-lent.false, c.number-number.ensures, c.lent.ensures) in (
      c.self.invariant.0 ++ c.back.invariant.0 ∷ [],
      c.put.ensures.stands c.self.invariant.0 c.back.invariant.0 c.self.invariant.1 c.back.invariant.1 own,
    )

pub returns-clause-takes : goal.returns-clause-takes
returns-clause-takes g c =
    let tape = g.L.Link.tape in
    let faults = g.L.Link.faults in
    let spare = c.back.inside.spare in
    let pool = c.self.inside.pool in
    let old = shelf_of tape faults pool in
    let new = shelf_of tape faults c.put.new.self in
    let back = rested (last_lease spare) (spare_view tape faults spare) in
    let own : last_lease spare ≤ lent_by pool =
    omega (arith, c.if-number-lent.false, c.number-number.ensures, c.lent.ensures) in
    let room : last_lease spare ≡ 0 → length (idle_in tape faults pool) + out_by pool < room_of pool =
    elim c.else-number-eq0.branch [
      | else-number-eq0-via-then-number-eq0+else-idle-out w ↦ λ new. omega
          (arith, w.idle.ensures.counts, w.out.ensures.counts, w.capacity.ensures, w.if-idle-out.false)
      | else-number-eq0-via-else-number-eq0 w ↦ λ new. omega
          (arith, c.number-number.ensures, w.if-number-eq0.false, new)
    ] in
    let e = c.put.ensures in
    let takes : TakesSession old back new =
    record { idle = e.idle; lent = e.lent; is_new = e.new; was_out = e.back; dropped = e.dropped; room = e.room }
    in
    let by_pool : (¬ RefusesSession old back) × TakesSession old back new =
    (not_refused old back own room, takes) in
    let By : Shelf → Rested → Type 0 = λ s b. (¬ RefusesSession s b) × TakesSession s b new in
    subst (λ (s : Shelf). By s c.args.back) c.self.view_is (subst (By old) c.back.view_is by_pool)
