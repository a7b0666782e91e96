use Rattle.std.proofs.Common.{rules}
use Rattle.pgw_registry.proofs.Steps.{appends}
use Rattle.pgw_registry.proofs.turn.commit.Goals as goal

pub fetch_add-requires : goal.fetch_add-requires
fetch_add-requires g c = (
  search rules,
  search rules,
  appends _ _ _ g.C.Asked.call c.requires.turn.0 c.requires.turn.1
      c.requires.clear.0 c.requires.clear.1 c.requires.room,
)
