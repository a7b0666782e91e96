use Rattle.pgw_secrets.proofs.Written.{read_back}
use Rattle.pgw_secrets.proofs.laws.a_secrets_text_tells_it.Goals as goal

pub returns : goal.returns
returns c secret kept = read_back secret kept
