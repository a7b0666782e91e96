use Rattle.pgw_machine.proofs.CourseLaws.{run_seen}
use Rattle.pgw_machine.proofs.laws.views_run_alike.Goals as goal

pub returns : goal.returns
returns g c = run_seen
