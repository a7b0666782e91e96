use Rattle.pgw_client_laws.proofs.LoginLaws.{login_call}
use Rattle.pgw_client_laws.proofs.laws.logins_are_startup_segments.Goals as goal

pub returns : goal.returns
returns c = login_call
