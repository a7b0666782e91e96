use Rattle.pgw_client_laws.proofs.SimpleLaws.{simple_call}
use Rattle.pgw_client_laws.proofs.laws.simple_queries_are_segments.Goals as goal

pub returns : goal.returns
returns c = simple_call
