use Rattle.std.proofs.Common.{ap, sym, ◌∙◌}
use Rattle.std.specs.Cmp.{nat_cmp_total}
use Rattle.std.specs.FinMap as map
use Rattle.pgw_registry.proofs.numbered.Numbered.get.Goals as goal

pub returns : goal.returns
returns g c =
    c.get.ensures.value
    ∙ sym (map.get-from_entries nat_cmp_total c.self.inside.held.entries c.args.number)
    ∙ ap (λ m. map.get m c.args.number) c.self.view_is
