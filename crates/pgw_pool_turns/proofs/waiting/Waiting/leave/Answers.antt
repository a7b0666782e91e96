use Rattle.std.proofs.Common.{rules, ◌≡◌, ◌==◌, ◌∙◌, not, ap, sym, subst, List, ℕ, arith}
use Rattle.std.specs.List.{filter}
use Rattle.std.proofs.lemmas.Fn.{filter_same}
use Rattle.pgw_pool_turns.specs.Rows.{row, without, IsInOrder}
use Rattle.pgw_pool_turns.proofs.RowLaws.{ascend_filter, filter_fits}
use Rattle.pgw_pool_turns.proofs.waiting.Waiting.leave.Goals as goal

pub invariant_of-self : goal.invariant_of-self
invariant_of-self c =
    let test = λ (t : ℕ). not (t == c.args.ticket) in
    let is : c.retain.new.self.items ≡ filter test c.self.inside.tickets.items =
    filter_same _ test _ (λ x r f' k. search rules) _ _ c.retain.ensures.filtered in
    let kept : IsInOrder (row c.self.inside.room c.self.inside.issued (filter test c.self.inside.tickets.items)) =
    record {
      ascend = ascend_filter test 0 c.self.inside.tickets.items c.self.inside.issued (c.self.invariant.0).ascend;
      fits = omega (arith, filter_fits test c.self.inside.tickets.items, (c.self.invariant.0).fits);
    } in (
      subst (λ (ts : List ℕ). IsInOrder (row c.self.inside.room c.self.inside.issued ts)) (sym is) kept,
      omega (arith, c.self.invariant.1, c.retain.ensures.capacity),
    )

pub returns : goal.returns
returns c =
    let test = λ (t : ℕ). not (t == c.args.ticket) in
    let is : c.retain.new.self.items ≡ filter test c.self.inside.tickets.items =
    filter_same _ test _ (λ x r f' k. search rules) _ _ c.retain.ensures.filtered in
    ap (row c.self.inside.room c.self.inside.issued) is ∙ ap (without c.args.ticket) c.self.view_is
