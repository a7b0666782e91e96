use Rattle.pgw_session.proofs.FlowLaws.{rows_are_described}
use Rattle.pgw_session.proofs.table_laws.rows_are_described.Goals as goal

pub returns : goal.returns
returns c = rows_are_described
