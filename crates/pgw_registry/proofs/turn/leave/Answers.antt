use Rattle.std.proofs.Common.{rules}
use Rattle.pgw_registry.proofs.Steps.{leaves_turn}
use Rattle.pgw_registry.proofs.turn.leave.Goals as goal

pub store-requires : goal.store-requires
store-requires c = (search rules, search rules, leaves_turn _ _ _ (search rules) (search rules) (search rules))
