use Rattle.pgw_client_laws.proofs.CallLaws.{login_stands}
use Rattle.pgw_client_laws.proofs.laws.logins_begin_a_client.Goals as goal

pub returns : goal.returns
returns c = login_stands
