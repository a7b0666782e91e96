use Rattle.std.proofs.Common.{sym, subst, List, ℕ, drop, arith}
use Rattle.pgw_pool_turns.specs.Rows.{row, IsInOrder}
use Rattle.pgw_pool_turns.proofs.RowLaws.{ascend_drop, drop_fits}
use Rattle.pgw_pool_turns.proofs.waiting.Waiting.serve.Goals as goal

pub invariant_of-self : goal.invariant_of-self
invariant_of-self c =
    let kept : IsInOrder (row c.self.inside.room c.self.inside.issued (drop 1 c.self.inside.tickets.items)) =
    record {
      ascend = ascend_drop 0 c.self.inside.tickets.items c.self.inside.issued (c.self.invariant.0).ascend;
      fits = omega (arith, drop_fits c.self.inside.tickets.items, (c.self.invariant.0).fits);
    } in (
      subst (λ (ts : List ℕ). IsInOrder (row c.self.inside.room c.self.inside.issued ts))
          (sym c.pop_front-served.ensures.rest) kept,
      omega (arith, c.self.invariant.1, c.pop_front-served.ensures.capacity),
    )
