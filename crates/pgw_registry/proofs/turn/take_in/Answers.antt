use Rattle.std.proofs.Common.{rules}
use Rattle.pgw_registry.proofs.Logs.{places_two}
use Rattle.pgw_registry.proofs.Steps.{merges, looks}
use Rattle.pgw_registry.proofs.turn.take_in.Goals as goal

pub join_seat-requires : goal.join_seat-requires
join_seat-requires c = (
  search rules,
  search rules,
  search rules,
  search rules,
  merges _ _ _ _ c.requires.idle.0 c.requires.idle.1
      c.requires.parts.0 c.requires.parts.1,
)

pub load-requires : goal.load-requires
load-requires c = (search rules, search rules, looks _ _ _)

pub returns-clause-count : goal.returns-clause-count
returns-clause-count c log = places_two 0 _ _ log (search rules)
