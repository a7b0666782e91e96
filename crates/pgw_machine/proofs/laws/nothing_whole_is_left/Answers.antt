use Rattle.pgw_machine.proofs.CourseLaws.{run_wants}
use Rattle.pgw_machine.proofs.laws.nothing_whole_is_left.Goals as goal

pub returns : goal.returns
returns g c = run_wants
