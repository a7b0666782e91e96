use Rattle.std.proofs.Common.{List, sym, subst}
use Rattle.std.specs.List.{All}
use Rattle.std.proofs.lemmas.List.Elements.{All-push}
use Rattle.pgw_link.specs.declared.memory.MemoryLink.{MemoryLink}
use Rattle.pgw_link.specs.MemoryLinks.{IsUnused}
use Rattle.pgw_prog_tests.proofs.commands.servers.links_to.Goals as goal

pub loop-server-preserved : goal.loop-server-preserved
loop-server-preserved c = subst (λ (l : List MemoryLink). All IsUnused l) (sym c.in_ok-push.ensures.ok)
    (All-push IsUnused c.loop-server.links c.in_ok-link_to.field-0 c.loop-server.invariant
    c.in_ok-link_to.ensures)
