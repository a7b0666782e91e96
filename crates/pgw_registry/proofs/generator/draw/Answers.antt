use Rattle.std.proofs.Common.{rules}
use Rattle.pgw_registry.proofs.Draws.{draws_one}
use Rattle.pgw_registry.proofs.generator.draw.Goals as goal

pub fetch_add-requires : goal.fetch_add-requires
fetch_add-requires c =
    (search rules, search rules, draws_one _ _ _ _ c.requires.room.0 c.requires.room.1 c.requires.room.2)
