use Rattle.std.proofs.Common.{ap, sym, ◌∙◌}
use Rattle.std.specs.Cmp.{nat_cmp_total}
use Rattle.std.specs.FinMap as map
use Rattle.pgw_registry.proofs.Maps.{written_entries}
use Rattle.pgw_registry.proofs.numbered.Numbered.insert.Goals as goal

pub returns-in-Ok-clause-ok : goal.returns-in-Ok-clause-ok
returns-in-Ok-clause-ok g c =
    written_entries nat_cmp_total map.nat_cmp-IsAntisymmetric c.self.inside.held.entries c.insert.new.self.entries
    c.args.number c.args.value c.in-Ok.ensures.updates.0
    ∙ ap (λ m. map.insert m c.args.number c.args.value) c.self.view_is

pub returns-clause-absent : goal.returns-clause-absent
returns-clause-absent g c =
    ap (λ m. map.get m c.args.number) (sym c.self.view_is)
    ∙ map.get-from_entries nat_cmp_total c.self.inside.held.entries c.args.number
    ∙ c.in-Err.ensures.absent
