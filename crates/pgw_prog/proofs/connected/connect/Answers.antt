use Rattle.pgw_prog.proofs.ConnectLaws.{text_leaves, text_printed, refusal_printed}
use Rattle.pgw_prog.proofs.connected.connect.Goals as goal

pub returns-in-Ok-clause-leaves : goal.returns-in-Ok-clause-leaves
returns-in-Ok-clause-leaves g c =
    let e = rw c.as_str.ensures.value at c.in-Ok.ensures in
    text_leaves c.args.nonce.now _ c.args.asked.now c.in-Ok.config e.parsed c.connect_with-printed.ensures.leaves

pub returns-in-Ok-clause-prints : goal.returns-in-Ok-clause-prints
returns-in-Ok-clause-prints g c =
    let e = rw c.as_str.ensures.value at c.in-Ok.ensures in
    text_printed c.args.nonce.now _ c.args.asked.now c.in-Ok.config c.connect_with-printed.result e.parsed e.only
    c.connect_with-printed.ensures.prints

pub returns-in-Err-clause-prints : goal.returns-in-Err-clause-prints
returns-in-Err-clause-prints g c =
    let e = rw c.as_str.ensures.value at c.in-Err.ensures in
    refusal_printed c.args.nonce.now _ c.args.asked.now c.in-Err.error c.from-error.result c.print_refusal.result
    c.from-error.ensures e.parsed e.only c.print_refusal.ensures.says c.print_refusal.ensures.memory
