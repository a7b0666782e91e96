use Rattle.pgw_prog_pool.proofs.CallLaws.{back_of}
use Rattle.pgw_prog_pool.proofs.desk.give_back.Goals as goal

pub returns-in_ok-told-in-Some-clause-called : goal.returns-in_ok-told-in-Some-clause-called
returns-in_ok-told-in-Some-clause-called c =
    let found = rw c.as_slice.ensures.value at c.in-Some.ensures in
    back_of c.args.pool.now c.give_back-returned.new.self c.args.out.now.items c.remove-lease.new.self.items
    c.in-Some.at c.args.number c.remove-lease.result c.give_back-returned.result _ _
    c.give_back-returned.ensures.lent found c.remove-lease.ensures.value c.remove-lease.ensures.by_index.2
    (c.give_back-returned.ensures.foretold tt) c.in_ok-told-in-Some.ensures.memory
    c.in_ok-told-in-Some.ensures.line
