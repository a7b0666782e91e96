use Rattle.pgw_machine.proofs.PlayLaws.{leads_run}
use Rattle.pgw_machine.proofs.laws.where_steps_are_a_function.Goals as goal

pub returns : goal.returns
returns g c = leads_run
