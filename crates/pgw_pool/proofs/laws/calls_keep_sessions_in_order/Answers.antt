use Rattle.pgw_pool.proofs.StockLaws.{any_steps}
use Rattle.pgw_pool.proofs.LedgerLaws.{any_entries}
use Rattle.pgw_pool.proofs.laws.calls_keep_sessions_in_order.Goals as goal

pub returns-clause-order : goal.returns-clause-order
returns-clause-order c = any_steps

pub returns-clause-entries : goal.returns-clause-entries
returns-clause-entries c = any_entries
