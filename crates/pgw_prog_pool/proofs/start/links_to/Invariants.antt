use Rattle.std.proofs.Common.{◌≡◌, map, take}
use Rattle.std.specs.List.{All}
use Rattle.pgw_link.specs.MemoryLinks.{IsUnused}
use Rattle.pgw_link.specs.Memory.{memory_left}
use Rattle.pgw_prog_pool.proofs.start.links_to.Given as goal

abbrev pub invariant-loop-server : goal.invariant-loop-server
invariant-loop-server l =
    All IsUnused l.links × (map memory_left l.links ≡ take l.server-index l.servers)
