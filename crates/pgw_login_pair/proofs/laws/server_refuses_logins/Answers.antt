use Rattle.pgw_login_pair.proofs.Refusing.{server_refuses_logins}
use Rattle.pgw_login_pair.proofs.laws.server_refuses_logins.Goals as goal

pub returns : goal.returns
returns c = server_refuses_logins
