use Rattle.std.proofs.Common.{List, sym, subst, drop-cons}
use Rattle.std.specs.List.{All}
use Rattle.std.proofs.lemmas.List.Elements.{All-get_or, All-drop}
use Rattle.pgw_link.specs.declared.memory.MemoryLink.{MemoryLink}
use Rattle.pgw_link.specs.MemoryLinks.{IsUnused}
use Rattle.pgw_link.proofs.memory_dialer.MemoryDialer.hand_out.Goals as goal

pub returns-clause-links : goal.returns-clause-links
returns-clause-links c = let e = drop-cons c.args.self.now.links.items 0 c.remove.result c.requires in cc

pub returns-clause-unused : goal.returns-clause-unused
returns-clause-unused c =
    subst (λ (x : MemoryLink). IsUnused x) (sym c.remove.ensures.value)
    (All-get_or IsUnused c.args.self.now.links.items 0 c.remove.result c.requires c.args.self.now.unused)

pub invariant_of-self : goal.invariant_of-self
invariant_of-self c =
    record {
      unused = subst (λ (xs : List MemoryLink). All IsUnused xs) (sym c.remove.ensures.by_index.2)
          (All-drop IsUnused 1 c.args.self.now.links.items c.args.self.now.unused);
      last = c.args.self.now.last;
    }
