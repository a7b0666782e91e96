use Rattle.pgw_registry.specs.Nested.{at_key}
use Rattle.pgw_registry.proofs.Nesting.{key_taken}
use Rattle.pgw_registry.proofs.pairs.is_last.Goals as goal

pub returns-clause-taken : goal.returns-clause-taken
unfolding at_key
returns-clause-taken c =
    key_taken c.args.keys.now.entries c.remove.new.self.entries c.args.key.now c.remove.ensures.entries
    c.remove.ensures.updates.1
