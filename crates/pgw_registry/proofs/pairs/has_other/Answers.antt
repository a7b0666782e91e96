use Rattle.std.proofs.Common.{not, ap, sym, ◌∙◌}
use Rattle.pgw_registry.specs.Nested.{is_other_key}
use Rattle.pgw_registry.proofs.Nesting.{none_other}
use Rattle.pgw_registry.proofs.pairs.has_other.Goals as goal

pub returns-in-Some : goal.returns-in-Some
unfolding is_other_key
returns-in-Some c = ap not c.is_key.ensures ∙ ap (λ o. is_other_key o c.args.key.now) c.in-Some.ensures.value

pub returns-in-None : goal.returns-in-None
returns-in-None c =
    sym (none_other c.args.key.now) ∙ ap (λ o. is_other_key o c.args.key.now) c.in-None.ensures.value
