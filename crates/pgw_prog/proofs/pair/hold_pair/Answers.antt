use Rattle.pgw_prog.proofs.PairLaws.{login_printed}
use Rattle.pgw_prog.proofs.pair.hold_pair.Goals as goal

pub returns : goal.returns
returns c =
    login_printed c.args.script c.in_ok-input.input c.hold-printed.result c.in_ok-input.ensures
    c.hold-printed.ensures
