use Rattle.pgw_pool_turns.proofs.StepLaws.{fair}
use Rattle.pgw_pool_turns.proofs.laws.first_come_is_first_served.Goals as goal

pub returns : goal.returns
returns c = fair
