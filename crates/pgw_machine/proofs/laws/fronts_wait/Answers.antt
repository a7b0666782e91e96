use Rattle.pgw_machine.proofs.FrontLaws as laws
use Rattle.pgw_machine.proofs.laws.fronts_wait.Goals as goal

pub returns : goal.returns
returns g c = laws.fronts_wait
