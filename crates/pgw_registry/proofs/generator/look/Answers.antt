use Rattle.std.proofs.Common.{rules}
use Rattle.pgw_registry.proofs.Draws.{looks}
use Rattle.pgw_registry.proofs.generator.look.Goals as goal

pub load-requires : goal.load-requires
load-requires c = (search rules, search rules, looks _ _ _ _)
