use Rattle.std.specs.Prelude.{All}
use Rattle.pgw_link.specs.MemoryLinks.{IsUnused}
use Rattle.pgw_pool_tests.proofs.shared.servers.links_to.Given as goal

abbrev pub invariant-loop-said : goal.invariant-loop-said
invariant-loop-said l = All IsUnused l.links
