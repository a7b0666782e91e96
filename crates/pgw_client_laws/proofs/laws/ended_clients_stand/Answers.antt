use Rattle.pgw_client_laws.proofs.CallLaws.{ended_stands}
use Rattle.pgw_client_laws.proofs.laws.ended_clients_stand.Goals as goal

pub returns : goal.returns
returns c = ended_stands
