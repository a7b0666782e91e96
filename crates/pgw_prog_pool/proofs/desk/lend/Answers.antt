use Rattle.std.proofs.Common.{refl}
use Rattle.pgw_prog_pool.proofs.CallLaws.{lent_one, lent_none}
use Rattle.pgw_prog_pool.proofs.desk.lend.Goals as goal

pub returns-in-Ok-clause-called : goal.returns-in-Ok-clause-called
returns-in-Ok-clause-called c =
    lent_one c.put_lease.result _ _ _ _ _ _ _ _ _ _ c.args.out.now.items _ _ _ _ _ c.in-Ok.ensures.lent
    c.in-Ok.ensures.foretold refl c.in_ok-reserve.ensures.items c.push_reserved.ensures.items
    c.number-number.ensures c.put_lease.ensures

pub returns-in-Err-clause-called : goal.returns-in-Err-clause-called
returns-in-Err-clause-called c =
    lent_none c.put_none.result c.args.pool.now _ c.args.out.now.items _ c.in-Err.why _ _ c.in-Err.ensures.refused
    c.in-Err.ensures.same c.in_ok-reserve.ensures.items c.put_none.ensures
