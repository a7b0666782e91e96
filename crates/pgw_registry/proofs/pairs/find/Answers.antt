use Rattle.std.proofs.Common.{ap, ◌∙◌}
use Rattle.pgw_registry.specs.Nested.{first_number_of, at_pair, at_either}
use Rattle.pgw_registry.proofs.pairs.find.Goals as goal

pub returns-in-Some : goal.returns-in-Some
unfolding at_either first_number_of
returns-in-Some c =
    ap (λ o. first_number_of o (at_pair c.args.numbers.now.entries c.args.pid.now c.args.key.now))
    c.in-Some.ensures

pub returns-in-None : goal.returns-in-None
unfolding at_either first_number_of
returns-in-None c =
    c.find_in.ensures
    ∙ ap (λ o. first_number_of o (at_pair c.args.numbers.now.entries c.args.pid.now c.args.key.now))
    c.in-None.ensures
