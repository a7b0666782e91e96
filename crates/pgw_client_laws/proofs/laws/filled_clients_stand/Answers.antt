use Rattle.pgw_client_laws.proofs.CallLaws.{filled_stands}
use Rattle.pgw_client_laws.proofs.laws.filled_clients_stand.Goals as goal

pub returns : goal.returns
returns c = filled_stands
