use Rattle.std.proofs.Common.{eqb, ap, ◌∙◌}
use Rattle.std.proofs.lemmas.Bool.Decides.{Decides-eqb}
use Rattle.std.proofs.lemmas.Slice.Eq.{slice_eq-Decides}
use lib.Pointwise.{pointwise}
use Rattle.pgw_registry.proofs.Nesting.{key_tells}
use Rattle.pgw_registry.proofs.pairs.is_key.Goals as goal

pub returns : goal.returns
returns c = key_tells c.eq.result c.args.one.now.key.items c.args.key.now
    (slice_eq-Decides Decides-eqb c.args.one.now.key.items c.args.key.now c.eq.result (c.eq.ensures
    ∙ ap (λ xs. pointwise eqb xs c.args.key.now) c.as_slice.ensures.value))
