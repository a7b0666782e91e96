use Rattle.std.proofs.Common.{arith, sym, ◌∙◌}
use mir.Syntax.{w32}
use mir.Val.{to_z, of_z}
use Rattle.pgw_registry.proofs.Names.{names_without_pair}
use Rattle.pgw_registry.proofs.registry.Registry.release.Goals as goal

pub invariant_of-self-2 : goal.invariant_of-self-2
invariant_of-self-2 c = (
  omega arith,
  omega arith,
  c.self.invariant.2,
  names_without_pair c.self.inside.pairs c.remove.new.self c.self.inside.names c.remove-2.new.self
      c.self.inside.handles_made (to_z w32 (of_z w32 c.args.pid)) c.args.key.now c.in-Some.number
      (sym c.get.ensures ∙ c.in-Some.is) c.remove.ensures c.remove-2.ensures.after c.self.invariant.3,
)
