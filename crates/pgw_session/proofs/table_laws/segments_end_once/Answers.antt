use Rattle.pgw_session.proofs.FlowLaws.{segment_ends}
use Rattle.pgw_session.proofs.table_laws.segments_end_once.Goals as goal

pub returns : goal.returns
returns c = segment_ends
