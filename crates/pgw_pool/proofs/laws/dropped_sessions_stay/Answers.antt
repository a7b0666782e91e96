use Rattle.pgw_pool.proofs.LedgerLaws.{dropped_stay}
use Rattle.pgw_pool.proofs.laws.dropped_sessions_stay.Goals as goal

pub returns : goal.returns
returns c = dropped_stay
