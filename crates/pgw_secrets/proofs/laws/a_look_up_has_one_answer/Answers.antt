use Rattle.pgw_secrets.proofs.Finding.{found_once}
use Rattle.pgw_secrets.proofs.laws.a_look_up_has_one_answer.Goals as goal

pub returns : goal.returns
returns c test entries one other a b = found_once test entries one other a b
