use Rattle.std.proofs.Common.{ap, ◌∙◌}
use Rattle.pgw_registry.specs.Nested.{at_key, in_number, at_pair}
use Rattle.pgw_registry.proofs.pairs.find_in.Goals as goal

pub returns-in-Some : goal.returns-in-Some
unfolding at_pair in_number at_key
returns-in-Some c =
    c.copied.ensures ∙ c.get-in-Some.ensures.value ∙ ap (λ o. in_number o c.args.key.now) c.in-Some.ensures.value

pub returns-in-None : goal.returns-in-None
unfolding at_pair in_number
returns-in-None c = ap (λ o. in_number o c.args.key.now) c.in-None.ensures.value
