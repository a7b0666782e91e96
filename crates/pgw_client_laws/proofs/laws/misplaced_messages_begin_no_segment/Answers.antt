use Rattle.pgw_client_laws.proofs.PassedLaws.{no_segment}
use Rattle.pgw_client_laws.proofs.laws.misplaced_messages_begin_no_segment.Goals as goal

pub returns : goal.returns
returns c = no_segment
