use Rattle.pgw_client_laws.proofs.ExtendedLaws.{extended_call}
use Rattle.pgw_client_laws.proofs.laws.extended_queries_are_segments.Goals as goal

pub returns : goal.returns
returns c = extended_call
