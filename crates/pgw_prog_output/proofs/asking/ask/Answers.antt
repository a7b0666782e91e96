use Rattle.pgw_prog_output.specs.Asking.{asked}
use Rattle.pgw_prog_output.proofs.AskingLaws.{unasked}
use Rattle.pgw_prog_output.proofs.asking.ask.Goals as goal

pub returns-in-Ok-clause-asked : goal.returns-in-Ok-clause-asked
returns-in-Ok-clause-asked g c = asked c.answer.result (g.M.Messages.line c.ask.new.self) c.in-Ok.ensures
    c.answer.ensures.answered

pub returns-in-Err-clause-asked : goal.returns-in-Err-clause-asked
returns-in-Err-clause-asked g c =
    rw (c.end_of.ensures, c.lose.ensures) (unasked c.in-Err.error _ _ _ _ _ c.in-Err.ensures)
