use Rattle.pgw_scram.proofs.BoundLaws.{bound_to}
use Rattle.pgw_scram.proofs.laws.a_bound_login_is_bound_to_the_servers_own_hash.Goals as goal

pub returns : goal.returns
returns c server password nonce client_first client_final hash own run binds =
    bound_to server password nonce client_first client_final hash own run binds
