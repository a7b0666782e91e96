use Rattle.std.proofs.Common.{sym, subst, ◌∙◌}
use Rattle.pgw_registry.specs.Passes.{IsPass}
use Rattle.pgw_registry.proofs.Logs.{held_front}
use Rattle.pgw_registry.proofs.Shares.{together_part}
use Rattle.pgw_registry.proofs.manager.Pass.meet.Goals as goal

pub invariant_of-self : goal.invariant_of-self
invariant_of-self c = let t = c.take_in.ensures in let i = c.self.invariant in let m = t.met in (
  t.desk.1
      ∙ i.0,
  subst IsPass (sym m.2) (
    i.1.0,
    i.1.1,
    held_front c.self.inside.place.me.0.own c.self.inside.place.me.0.numbers
        c.other.inside.place.me.0.numbers i.1.2,
    m.1.1,
    together_part c.self.inside.place.me.0.share
        c.other.inside.place.me.0.share i.1.4 c.other.invariant.1.4,
    m.1.3,
    m.1.2,
  ),
)
