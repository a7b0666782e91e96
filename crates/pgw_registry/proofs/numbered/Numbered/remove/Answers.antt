use Rattle.std.proofs.Common.{ap, sym, ◌∙◌}
use Rattle.std.specs.Cmp.{nat_cmp_total}
use Rattle.std.specs.FinMap as map
use Rattle.pgw_registry.proofs.Maps.{removed_entries}
use Rattle.pgw_registry.proofs.numbered.Numbered.remove.Goals as goal

pub returns-clause-value : goal.returns-clause-value
returns-clause-value g c =
    c.remove.ensures.value
    ∙ sym (map.get-from_entries nat_cmp_total c.self.inside.held.entries c.args.number)
    ∙ ap (λ m. map.get m c.args.number) c.self.view_is

pub returns-clause-after : goal.returns-clause-after
returns-clause-after g c =
    removed_entries nat_cmp_total map.nat_cmp-IsAntisymmetric c.self.inside.held.entries c.remove.new.self.entries
    c.args.number c.remove.ensures.updates.0
    ∙ ap (λ m. map.remove m c.args.number) c.self.view_is
