use Rattle.pgw_session.proofs.FlowLaws.{placed_as_answers}
use Rattle.pgw_session.proofs.table_laws.requests_take_their_answers.Goals as goal

pub returns : goal.returns
returns c = placed_as_answers
