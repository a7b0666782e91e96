use Rattle.pgw_session.proofs.FlowLaws.{rounds_are_answered}
use Rattle.pgw_session.proofs.table_laws.rounds_are_answered.Goals as goal

pub returns : goal.returns
returns c = rounds_are_answered
