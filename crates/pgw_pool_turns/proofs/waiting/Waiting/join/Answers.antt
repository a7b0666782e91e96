use Rattle.std.proofs.Common.{◌+◌, ◌++◌, ◌∷◌, [], sym, subst, List, ℕ, arith, length-append}
use Rattle.pgw_pool_turns.specs.Rows.{row, IsInOrder}
use Rattle.pgw_pool_turns.proofs.RowLaws.{ascend_push}
use Rattle.pgw_pool_turns.proofs.waiting.Waiting.join.Goals as goal

pub invariant_of-self : goal.invariant_of-self
invariant_of-self c =
    let kept : IsInOrder (row c.self.inside.room (c.self.inside.issued + 1)
    (c.self.inside.tickets.items ++ c.self.inside.issued ∷ [])) =
    record {
      ascend = ascend_push 0 c.self.inside.tickets.items c.self.inside.issued (c.self.invariant.0).ascend;
      fits = (let h = c.len.ensures in let w = c.if-len-self.false in grind (arith, length-append));
    } in (
      subst (λ (ts : List ℕ). IsInOrder (row c.self.inside.room (c.self.inside.issued + 1) ts))
          (sym c.push_back_reserved.ensures.items) kept,
      omega (arith, c.self.invariant.1, c.push_back_reserved.ensures.capacity),
    )
