use Rattle.std.proofs.Common.{◌+◌, arith}
use Rattle.pgw_registry.proofs.Holders.{few_written}
use Rattle.pgw_registry.proofs.Names.{names_later}
use Rattle.pgw_registry.proofs.registry.Registry.new_handle.Goals as goal

pub invariant_of-self-2 : goal.invariant_of-self-2
invariant_of-self-2 c = (
  omega arith,
  omega arith,
  few_written c.self.inside.handles c.insert.new.self (c.self.inside.handles_made + 1) c.self.inside.events _
      c.in_ok-insert.ensures.ok c.self.invariant.2 (omega arith) (omega arith),
  names_later c.self.inside.pairs c.self.inside.names c.self.inside.handles_made c.self.invariant.3,
)
