use Rattle.pgw_prog_output.specs.declared.page.Stop.TheVariants as stop
use Rattle.pgw_prog_output.proofs.HearingLaws.{stopped_first}
use Rattle.pgw_prog_output.proofs.asking.wait_for_more.Goals as goal

pub returns-in-Ok-clause-counts : goal.returns-in-Ok-clause-counts
returns-in-Ok-clause-counts g c = rw c.in-Ok.ensures.calm (c.fill.ensures.counts _)

pub returns-in-Err-clause-hears : goal.returns-in-Err-clause-hears
returns-in-Err-clause-hears g c = λ awaits. stopped_first stop.Output _ _ _ c.in-Err.ensures.front
