use Rattle.pgw_client_laws.proofs.StandLaws.{is_session}
use Rattle.pgw_client_laws.proofs.laws.clients_are_sessions.Goals as goal

pub returns : goal.returns
returns c = is_session
