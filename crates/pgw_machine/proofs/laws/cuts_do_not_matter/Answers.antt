use Rattle.pgw_machine.proofs.CourseLaws.{run_append}
use Rattle.pgw_machine.proofs.laws.cuts_do_not_matter.Goals as goal

pub returns : goal.returns
returns g c = run_append
