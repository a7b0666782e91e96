use Rattle.pgw_prog_output.proofs.HearingLaws.{waited, ran_dry, unfilled}
use Rattle.pgw_prog_output.proofs.asking.fill.Goals as goal

pub returns-in-Ok-true-clause-hears : goal.returns-in-Ok-true-clause-hears
returns-in-Ok-true-clause-hears g c =
    λ before after p awaits. waited _ _ before after p (rw c.in-Ok-true.field-0-test at
    c.in-Ok-true.ensures)

pub returns-in-Ok-false-clause-hears : goal.returns-in-Ok-false-clause-hears
returns-in-Ok-false-clause-hears g c = λ before after p awaits.
    rw c.lose.ensures (ran_dry (g.M.Messages.line c.args.source.now) (g.M.Messages.line c.wait.new.self) before
    after p awaits (rw c.in-Ok-false.field-0-test at c.in-Ok-false.ensures))

pub returns-in-Err-clause-hears : goal.returns-in-Err-clause-hears
returns-in-Err-clause-hears g c = λ before after p awaits.
    rw c.lose-in-Err.ensures (unfilled c.in-Err.error (g.M.Messages.line c.args.source.now) (g.M.Messages.line
    c.wait.new.self) before after p awaits c.in-Err.ensures)
