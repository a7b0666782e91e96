use Rattle.std.proofs.Common.{arith, sym, ◌∙◌}
use Rattle.pgw_registry.proofs.Holders.{few_written, few_removed}
use Rattle.pgw_registry.proofs.Names.{names_without_handle}
use Rattle.pgw_registry.proofs.registry.Registry.let_go.Goals as goal

pub invariant_of-self-then-handle-eq1 : goal.invariant_of-self-then-handle-eq1
invariant_of-self-then-handle-eq1 c = (
  omega arith,
  omega arith,
  few_removed c.self.inside.handles c.remove.new.self c.args.number c.self.inside.events c.remove.ensures.after
      c.self.invariant.2,
  names_without_handle c.self.inside.pairs c.forget_pair.new.pairs c.self.inside.names c.forget_pair.new.names
      c.self.inside.handles_made c.args.number c.forget_pair.ensures.pairs c.forget_pair.ensures.names
      c.self.invariant.3,
)

pub invariant_of-self-2 : goal.invariant_of-self-2
invariant_of-self-2 c =
    let few =
    c.self.invariant.2 c.args.number c.in-Some.handle (sym c.get.ensures ∙ sym c.copied.ensures
    ∙ c.in-Some.is) in (
      omega arith,
      omega arith,
      few_written c.self.inside.handles c.replace.new.self c.args.number
          c.self.inside.events _ c.replace.ensures c.self.invariant.2 (omega arith) (omega arith),
      c.self.invariant.3,
    )
