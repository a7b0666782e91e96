use Rattle.std.proofs.Common.{ap, ◌∙◌, sym}
use Rattle.std.specs.FinMap as map
use Rattle.pgw_wire.proofs.ParamLaws.{entries_of}
use Rattle.pgw_wire.proofs.params.Params.iter.Goals as goal

pub returns : goal.returns
returns c =
    c.iter.ensures.rest ∙ sym (entries_of c.self.inside.held.entries c.self.invariant)
    ∙ ap (λ m. map.entries m) c.self.view_is
