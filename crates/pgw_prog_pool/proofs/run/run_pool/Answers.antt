use Rattle.pgw_prog_pool.proofs.OutcomeLaws.{configured, refused}
use Rattle.pgw_prog_pool.proofs.run.run_pool.Goals as goal

pub returns-in-Ok : goal.returns-in-Ok
returns-in-Ok c =
    let e = rw c.as_str.ensures.value at c.in-Ok.ensures in
    configured c.args.script.now c.in-Ok.config c.run_with.result e.parsed e.only c.run_with.ensures

pub returns-in-Err : goal.returns-in-Err
returns-in-Err c =
    let e = rw c.as_str.ensures.value at c.in-Err.ensures in
    refused c.args.script.now c.in-Err.error c.from-error.result c.refused.result c.from-error.ensures e.parsed
    e.only c.refused.ensures.memory c.refused.ensures.value
