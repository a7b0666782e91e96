use Rattle.std.proofs.Common.{ap, sym, ◌∙◌}
use Rattle.pgw_registry.specs.Nested.{in_one, at_first}
use Rattle.pgw_registry.proofs.Nesting.{nothing_stands}
use Rattle.pgw_registry.proofs.pairs.find_first.Goals as goal

pub returns-in-Some : goal.returns-in-Some
unfolding at_first
returns-in-Some c = c.of_one.ensures ∙ ap (λ o. in_one o c.args.key.now) c.in-Some.ensures.value

pub returns-in-None : goal.returns-in-None
unfolding at_first
returns-in-None c =
    sym (nothing_stands c.args.key.now) ∙ ap (λ o. in_one o c.args.key.now) c.in-None.ensures.value
