use Rattle.std.proofs.Common.{◌∙◌, ap, sym}
use Rattle.pgw_link.specs.Memory.{memory_tape, faults_of}
use Rattle.pgw_pool.specs.Views.{idle_in, lefts_in, lent_by}
use Rattle.pgw_prog_pool.specs.Views.{seat_place, to_come}
use Rattle.pgw_prog_pool.proofs.CallLaws.{ran_at}
use Rattle.pgw_prog_pool.proofs.desk.run_in.Goals as goal

pub returns-in_ok-run-in-Some-clause-called : goal.returns-in_ok-run-in-Some-clause-called
returns-in_ok-run-in-Some-clause-called c =
    let found = rw c.as_slice.ensures.value at c.in-Some.ensures in
    let here = c.index_mut.ensures.value in
    ran_at seat_place (lent_by c.args.pool.now) (idle_in memory_tape faults_of c.args.pool.now)
    (lefts_in to_come c.args.pool.now) c.args.out.now.items c.in-Some.at c.args.number c.index_mut.result.now
    c.run.new.seat c.args.request.now _ _ found.0 (sym here) (ap (λ s. (seat_place s).number) here
    ∙ found.1 c.index_mut.result.now) c.in_ok-run-in-Some.ensures
