use Rattle.pgw_pool.proofs.SessionLaws.{idle_made_of, lent_made_of}
use Rattle.pgw_pool.proofs.laws.sessions_are_leases.Goals as goal

pub returns-clause-idle : goal.returns-clause-idle
returns-clause-idle c = idle_made_of c.clients_are_sessions.ensures

pub returns-clause-lent : goal.returns-clause-lent
returns-clause-lent c = lent_made_of c.clients_are_sessions.ensures
