use Rattle.pgw_machine.proofs.CourseLaws.{run_more, run_bad, run_whole}
use Rattle.pgw_machine.proofs.laws.the_front_decides.Goals as goal

pub returns : goal.returns
returns g c = record { more = run_more; bad = run_bad; whole = run_whole }
