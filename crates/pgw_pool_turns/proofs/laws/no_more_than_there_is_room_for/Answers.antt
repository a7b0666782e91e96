use Rattle.pgw_pool_turns.proofs.StepLaws.{keeps}
use Rattle.pgw_pool_turns.proofs.laws.no_more_than_there_is_room_for.Goals as goal

pub returns : goal.returns
returns c = keeps
