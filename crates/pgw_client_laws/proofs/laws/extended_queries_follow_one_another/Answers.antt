use Rattle.pgw_client_laws.proofs.CallLaws.{extended_stands}
use Rattle.pgw_client_laws.proofs.laws.extended_queries_follow_one_another.Goals as goal

pub returns : goal.returns
returns c = extended_stands
