use Rattle.std.specs.Prelude.{All}
use Rattle.pgw_link.specs.MemoryLinks.{IsUnused}
use Rattle.pgw_prog_tests.proofs.commands.servers.links_to.Given as goal

abbrev pub invariant-loop-server : goal.invariant-loop-server
invariant-loop-server l = All IsUnused l.links
