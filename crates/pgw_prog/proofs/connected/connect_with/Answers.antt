use Rattle.std.proofs.Common.{inr}
use Rattle.pgw_prog.proofs.ConnectLaws.{talk_printed, no_address_printed}
use Rattle.pgw_prog.proofs.connected.connect_with.Goals as goal

pub returns-in-Ok-clause-leaves : goal.returns-in-Ok-clause-leaves
returns-in-Ok-clause-leaves g c =
    inr (c.in-Ok.address, c.in-Ok.ensures, (c.talk-outcome.result, c.talk-outcome.ensures.talked))

pub returns-in-Ok-clause-prints : goal.returns-in-Ok-clause-prints
returns-in-Ok-clause-prints g c =
    talk_printed c.args.nonce.now _ c.args.asked.now c.args.config.now c.in-Ok.address c.talk-outcome.result
    c.print_result.result c.in-Ok.ensures c.talk-outcome.ensures.talked c.print_result.ensures.says
    c.print_result.ensures.memory

pub returns-in-Err-clause-prints : goal.returns-in-Err-clause-prints
returns-in-Err-clause-prints g c =
    no_address_printed c.args.nonce.now _ c.args.asked.now c.args.config.now c.in-Err.error c.from.result
    c.print_result-in-Err.result c.from.ensures c.in-Err.ensures c.print_result-in-Err.ensures.says
    c.print_result-in-Err.ensures.memory
