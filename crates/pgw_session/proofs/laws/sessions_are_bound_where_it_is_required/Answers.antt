use Rattle.pgw_session.proofs.BoundLaws.{required}
use Rattle.pgw_session.proofs.laws.sessions_are_bound_where_it_is_required.Goals as goal

pub returns : goal.returns
returns c input es is s = required input es is s
