use Rattle.std.proofs.Common.{sym, ◌∙◌, arith}
use Rattle.pgw_registry.proofs.Holders.{few_written}
use Rattle.pgw_registry.proofs.registry.Registry.hold.Goals as goal

pub invariant_of-self-2 : goal.invariant_of-self-2
invariant_of-self-2 c =
    let few =
    c.self.invariant.2 c.args.number c.in-Some.handle (sym c.get.ensures ∙ sym c.copied.ensures
    ∙ c.in-Some.is) in (
      omega arith,
      omega arith,
      few_written c.self.inside.handles c.replace.new.self c.args.number
          c.self.inside.events _ c.replace.ensures c.self.invariant.2 (omega arith) (omega arith),
      c.self.invariant.3,
    )
