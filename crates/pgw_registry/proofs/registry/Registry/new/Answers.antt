use Rattle.std.proofs.Common.{arith}
use Rattle.pgw_registry.proofs.Holders.{few_nothing}
use Rattle.pgw_registry.proofs.Names.{names_nothing}
use Rattle.pgw_registry.proofs.registry.Registry.new.Goals as goal

pub invariant_of-result : goal.invariant_of-result
invariant_of-result c = (
  omega arith,
  omega arith,
  few_nothing c.new-3.result c.new-3.ensures,
  names_nothing c.new.result
      c.new-2.result c.new.ensures,
)
