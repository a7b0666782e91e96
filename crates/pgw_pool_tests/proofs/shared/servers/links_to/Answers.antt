use Rattle.std.proofs.Common.{List, sym, subst}
use Rattle.std.specs.List.{All}
use Rattle.std.proofs.lemmas.List.Elements.{All-push}
use Rattle.pgw_link.specs.declared.memory.MemoryLink.{MemoryLink}
use Rattle.pgw_link.specs.MemoryLinks.{IsUnused}
use Rattle.pgw_pool_tests.proofs.shared.servers.links_to.Goals as goal

pub loop-said-preserved : goal.loop-said-preserved
loop-said-preserved c =
    let loop = c.loop-said in
    let one = c.in_ok-link_to in
    let all = All-push IsUnused loop.links one.field-0 loop.invariant one.ensures in
    subst (λ (l : List MemoryLink). All IsUnused l) (sym c.in_ok-push.ensures.ok) all
