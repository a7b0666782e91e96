use Rattle.pgw_prog.proofs.HeldLaws.{held, refused}
use Rattle.pgw_prog.proofs.held.hold.Goals as goal

pub returns-in-Ok : goal.returns-in-Ok
returns-in-Ok c =
    let e = rw c.as_str.ensures.value at c.in-Ok.ensures in
    held c.args.script c.in-Ok.config c.hold_with.result e.parsed e.only c.hold_with.ensures

pub returns-in-Err : goal.returns-in-Err
returns-in-Err c =
    let e = rw c.as_str.ensures.value at c.in-Err.ensures in
    refused c.args.script c.in-Err.error c.from-error.result c.print_refusal.result c.from-error.ensures e.parsed
    e.only c.print_refusal.ensures.memory c.print_refusal.ensures.says
