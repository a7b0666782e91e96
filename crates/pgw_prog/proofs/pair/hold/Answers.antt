use Rattle.pgw_prog.proofs.PairLaws.{ends_printed}
use Rattle.pgw_prog.proofs.pair.hold.Goals as goal

pub returns-in-Ok : goal.returns-in-Ok
returns-in-Ok c =
    ends_printed c.args.input.now c.in-Ok.outcome c.print_pair.result c.in-Ok.ensures c.print_pair.ensures
