use Rattle.std.proofs.Common.{rules}
use Rattle.pgw_registry.proofs.Draws.{forks}
use Rattle.pgw_registry.proofs.generator.cut.Goals as goal

pub split_seat-requires : goal.split_seat-requires
split_seat-requires c = (search rules, search rules, forks _ _ _ c.requires.owes)
