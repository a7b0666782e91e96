use Rattle.std.proofs.Common.{◌≡◌, cond, None, ap, sym, ◌∙◌, arith}
use Rattle.std.proofs.lemmas.Int.{to_z-of_z}
use mir.Syntax.{w32}
use mir.Val.{to_z, of_z}
use Rattle.std.specs.Ordering.{eq_by_cmp}
use Rattle.std.specs.FinMap as map
use Rattle.pgw_registry.specs.Pairs.{pair_cmp}
use Rattle.pgw_registry.specs.Nested.{both_flat, at_either}
use Rattle.pgw_registry.proofs.Maps.{removed_entries}
use Rattle.pgw_registry.proofs.Nesting.{pair_cmp_total, pairs_alone, at_both, either_taken}
use Rattle.pgw_registry.proofs.pairs.Pairs.remove.Goals as goal

pub returns : goal.returns
returns c =
    let fits : to_z w32 (of_z w32 c.args.pid) ≡ c.args.pid = grind (arith, to_z-of_z) in
    let firsts = c.self.inside.firsts.entries in
    let numbers = c.self.inside.numbers.entries in
    let firsts_left = c.take_first.new.firsts.entries in
    let numbers_left = c.take_from.new.numbers.entries in
    removed_entries pair_cmp_total pairs_alone (both_flat firsts numbers) (both_flat firsts_left numbers_left)
    (c.args.pid, c.args.key.now)
    (λ q. at_both firsts_left numbers_left (c.take_first.ensures.ordered c.self.invariant.0)
    c.take_from.ensures.ordered q.0 q.1
    ∙ either_taken firsts firsts_left numbers numbers_left (to_z w32 (of_z w32 c.args.pid)) c.args.key.now
    c.take_first.ensures.taken c.take_from.ensures.taken q.0 q.1
    ∙ ap (λ n. cond (eq_by_cmp pair_cmp (n, c.args.key.now) q) None (at_either firsts numbers q.0 q.1)) fits
    ∙ ap (cond (eq_by_cmp pair_cmp (c.args.pid, c.args.key.now) q) None)
    (sym (at_both firsts numbers c.self.invariant.0 c.self.invariant.1 q.0 q.1)))
    ∙ ap (λ m. map.remove m (c.args.pid, c.args.key.now)) c.self.view_is
