use Rattle.pgw_session.proofs.FlowLaws.{sync_behind_errors}
use Rattle.pgw_session.proofs.table_laws.sync_is_sent_behind_errors.Goals as goal

pub returns : goal.returns
returns c = sync_behind_errors
