use Rattle.pgw_secrets.proofs.Comparing.{judged_alike}
use Rattle.pgw_secrets.proofs.laws.a_secret_answers_alike_where_its_key_hashes_alone.Goals as goal

pub returns : goal.returns
returns c server message key only = judged_alike server message key only
