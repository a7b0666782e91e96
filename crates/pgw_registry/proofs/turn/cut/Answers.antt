use Rattle.std.proofs.Common.{rules}
use Rattle.pgw_registry.proofs.Steps.{forks, names}
use Rattle.pgw_registry.proofs.turn.cut.Goals as goal

pub split_seat-made-requires : goal.split_seat-made-requires
split_seat-made-requires c = (search rules, search rules, forks _ _)

pub load-requires : goal.load-requires
load-requires c = (search rules, search rules, names _ _ _ (search rules) (search rules) (search rules))
