use Rattle.pgw_secrets.proofs.Comparing.{taken}
use Rattle.pgw_secrets.proofs.laws.a_secret_accepts_what_its_password_does.Goals as goal

pub returns : goal.returns
returns c server message final key is = taken server message final key is
