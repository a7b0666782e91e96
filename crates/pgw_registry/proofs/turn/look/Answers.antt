use Rattle.std.proofs.Common.{rules}
use Rattle.pgw_registry.proofs.Steps.{looks}
use Rattle.pgw_registry.proofs.turn.look.Goals as goal

pub load-requires : goal.load-requires
load-requires c = (search rules, search rules, looks _ _ _)
