use Rattle.pgw_client_laws.proofs.CallLaws.{query_stands}
use Rattle.pgw_client_laws.proofs.laws.simple_queries_follow_one_another.Goals as goal

pub returns : goal.returns
returns c = query_stands
