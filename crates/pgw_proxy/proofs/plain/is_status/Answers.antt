use Rattle.pgw_query.specs.declared.response.TransactionStatus.TheVariants.{Idle, Transaction, Error}
use Rattle.pgw_proxy.proofs.plain.is_status.Goals as goal

pub returns-in-73 : goal.returns-in-73
returns-in-73 c = (Idle, c.in-73.is)

pub returns-in-84 : goal.returns-in-84
returns-in-84 c = (Transaction, c.in-84.is)

pub returns-in-69 : goal.returns-in-69
returns-in-69 c = (Error, c.in-69.is)
