use Rattle.pgw_machine.proofs.CourseLaws.{run_over}
use Rattle.pgw_machine.proofs.laws.an_end_stays.Goals as goal

pub returns : goal.returns
returns g c = run_over
