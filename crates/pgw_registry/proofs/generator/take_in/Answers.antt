use Rattle.std.proofs.Common.{rules}
use Rattle.pgw_registry.proofs.Draws.{merges, compares}
use Rattle.pgw_registry.proofs.generator.take_in.Goals as goal

pub join_seat-requires : goal.join_seat-requires
join_seat-requires c = (
  search rules,
  search rules,
  search rules,
  search rules,
  merges _ _ _ _ _ c.requires.parts.0
      c.requires.parts.1,
)

pub load-requires : goal.load-requires
load-requires c = (search rules, search rules, compares _ _ _ _)
