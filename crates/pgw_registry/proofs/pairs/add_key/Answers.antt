use Rattle.pgw_registry.specs.Nested.{at_key}
use Rattle.std.proofs.Common.{ap, ◌∙◌}
use Rattle.pgw_registry.proofs.Nesting.{key_written}
use Rattle.pgw_registry.proofs.pairs.add_key.Goals as goal

pub returns-clause-ok : goal.returns-clause-ok
returns-clause-ok c k =
    ap (λ ks. at_key ks k) c.in_ok-insert.ensures.entries
    ∙ key_written c.args.keys.now.entries c.args.key c.args.handle k
