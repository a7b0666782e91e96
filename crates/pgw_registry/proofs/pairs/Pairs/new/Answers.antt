use Rattle.std.proofs.Common.{[], ap, ◌∙◌}
use Rattle.std.specs.FinMap as map
use Rattle.pgw_registry.specs.Pairs.{pair_cmp}
use Rattle.pgw_registry.specs.Nested.{both_flat, flat_firsts, flat}
use Rattle.pgw_registry.proofs.pairs.Pairs.new.Goals as goal

pub returns : goal.returns
unfolding both_flat flat_firsts flat
returns c =
    ap (λ fs. map.from_entries {R = pair_cmp} (both_flat fs c.new-2.result.entries)) c.new.ensures.empty
    ∙ ap (λ es. map.from_entries {R = pair_cmp} (both_flat [] es)) c.new-2.ensures.empty
