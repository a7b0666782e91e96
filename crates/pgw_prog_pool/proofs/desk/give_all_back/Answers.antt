use Rattle.std.proofs.Common.{arith}
use Rattle.pgw_prog_pool.proofs.CallLaws.{first_of_all, nothing_out, room_left}
use Rattle.pgw_prog_pool.proofs.desk.give_all_back.Goals as goal

pub leases-preserved : goal.leases-preserved
leases-preserved c = (
  room_left c.leases.pool c.give_back-returned.new.self c.leases.out.items c.remove-lease.new.self.items
      c.give_back-returned.ensures.room c.give_back-returned.ensures.counts
      (omega (arith, c.leases-test.true, c.len.ensures)) c.remove-lease.ensures.by_index.2
      c.leases.invariant.0,
  λ last more. c.leases.invariant.1 last
      (first_of_all c.leases.pool c.give_back-returned.new.self c.leases.out.items
      c.remove-lease.new.self.items c.remove-lease.result c.give_back-returned.result
      c.give_back-returned.ensures.lent (omega (arith, c.leases-test.true, c.len.ensures))
      c.remove-lease.ensures.value c.remove-lease.ensures.by_index.2
      (c.give_back-returned.ensures.foretold tt) last more),
)

pub returns : goal.returns
returns c =
    c.leases.invariant.1 _
    (nothing_out c.leases.pool c.leases.out.items
    (omega (arith, c.leases-test.false, c.len.ensures)))
