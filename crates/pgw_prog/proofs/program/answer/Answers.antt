use Rattle.std.proofs.Common.{refl}
use Rattle.pgw_prog.specs.Transfer.{source_span}
use Rattle.pgw_prog.proofs.TransferLaws.{untouched}
use Rattle.pgw_prog.proofs.program.answer.Goals as goal

pub returns-in_ok-make_secret-in-Secret-clause-took : goal.returns-in_ok-make_secret-in-Secret-clause-took
returns-in_ok-make_secret-in-Secret-clause-took g c =
    untouched (source_span g.I.Source.tape g.I.Source.left g.I.Source.faults c.args.input.now c.args.input.now)
    refl refl
