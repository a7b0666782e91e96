use Rattle.pgw_session.proofs.BoundLaws.{offered}
use Rattle.pgw_session.proofs.laws.sessions_are_bound_where_it_is_offered.Goals as goal

pub returns : goal.returns
returns c input es before later methods hash s own allowed asked offer =
    offered input es before later methods hash s own allowed asked offer
