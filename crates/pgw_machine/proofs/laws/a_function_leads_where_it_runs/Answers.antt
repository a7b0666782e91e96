use Rattle.pgw_machine.proofs.FrontLaws as laws
use Rattle.pgw_machine.proofs.laws.a_function_leads_where_it_runs.Goals as goal

pub returns : goal.returns
returns g c = laws.run_leads
