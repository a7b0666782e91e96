use Rattle.pgw_secrets.proofs.Comparing.{one_answer}
use Rattle.pgw_secrets.proofs.laws.a_last_message_has_one_answer.Goals as goal

pub returns : goal.returns
returns c server message one other a b = one_answer server message one other a b
