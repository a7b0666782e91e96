use Rattle.std.proofs.Common.{◌≡◌, cond, true, false, Some, ap, sym, ◌∙◌, arith}
use Rattle.std.proofs.lemmas.Int.{to_z-of_z}
use mir.Syntax.{w32}
use mir.Val.{to_z, of_z}
use Rattle.std.specs.Ordering.{eq_by_cmp, int_cmp}
use Rattle.std.specs.BTreeMap.{is_at}
use Rattle.std.specs.Map.{lookup}
use Rattle.std.specs.FinMap as map
use Rattle.pgw_registry.specs.Pairs.{pair_cmp}
use Rattle.pgw_registry.specs.Nested.{both_flat, at_either, is_other_key}
use Rattle.pgw_registry.proofs.Maps.{written_entries, kept}
use Rattle.pgw_registry.proofs.Nesting.{pair_cmp_total, pairs_alone, at_both, first_put, other_put, others_kept, on_ok_from, on_err_from}
use Rattle.pgw_registry.proofs.pairs.Pairs.insert.Goals as goal

pub returns-then-has_other-clause-ok : goal.returns-then-has_other-clause-ok
returns-then-has_other-clause-ok c =
    let number = to_z w32 (of_z w32 c.args.pid) in
    let fits : number ≡ c.args.pid = grind (arith, to_z-of_z) in
    let firsts = c.self.inside.firsts.entries in
    let old = c.self.inside.numbers.entries in
    let new = c.add_to.new.numbers.entries in
    let other : is_other_key (lookup (is_at (int_cmp number)) firsts) c.args.key.items ≡ true =
    ap (is_other_key (lookup (is_at (int_cmp number)) firsts)) (sym c.as_slice.ensures.value)
    ∙ sym c.has_other.ensures ∙ c.if-has_other.true in
    on_ok_from c.add_to.result
    (λ written. written_entries pair_cmp_total pairs_alone (both_flat firsts old) (both_flat firsts new)
    (c.args.pid, c.args.key.items) c.args.handle
    (λ q. at_both firsts new c.self.invariant.0 c.add_to.ensures.ordered q.0 q.1
    ∙ other_put firsts old new number c.args.key.items c.args.handle other written q.0 q.1
    ∙ ap (λ n. cond (eq_by_cmp pair_cmp (n, c.args.key.items) q) (Some c.args.handle)
    (at_either firsts old q.0 q.1)) fits
    ∙ ap (cond (eq_by_cmp pair_cmp (c.args.pid, c.args.key.items) q) (Some c.args.handle))
    (sym (at_both firsts old c.self.invariant.0 c.self.invariant.1 q.0 q.1)))
    ∙ ap (λ m. map.insert m (c.args.pid, c.args.key.items) c.args.handle) c.self.view_is)
    c.add_to.ensures.ok

pub returns-then-has_other-clause-err : goal.returns-then-has_other-clause-err
returns-then-has_other-clause-err c =
    let firsts = c.self.inside.firsts.entries in
    let old = c.self.inside.numbers.entries in
    let new = c.add_to.new.numbers.entries in
    on_err_from c.add_to.result
    (λ same. kept pair_cmp_total pairs_alone (map.from_entries (both_flat firsts old))
    (map.from_entries (both_flat firsts new))
    (λ q. map.get-from_entries pair_cmp_total (both_flat firsts new) q
    ∙ at_both firsts new c.self.invariant.0 c.add_to.ensures.ordered q.0 q.1
    ∙ others_kept firsts old new same q.0 q.1
    ∙ sym (map.get-from_entries pair_cmp_total (both_flat firsts old) q
    ∙ at_both firsts old c.self.invariant.0 c.self.invariant.1 q.0 q.1))
    ∙ c.self.view_is)
    c.add_to.ensures.err

pub returns-else-has_other-clause-ok : goal.returns-else-has_other-clause-ok
returns-else-has_other-clause-ok c =
    let number = to_z w32 (of_z w32 c.args.pid) in
    let fits : number ≡ c.args.pid = grind (arith, to_z-of_z) in
    let old = c.self.inside.firsts.entries in
    let new = c.put_first.new.firsts.entries in
    let numbers = c.self.inside.numbers.entries in
    let own : is_other_key (lookup (is_at (int_cmp number)) old) c.args.key.items ≡ false =
    ap (is_other_key (lookup (is_at (int_cmp number)) old)) (sym c.as_slice.ensures.value)
    ∙ sym c.has_other.ensures ∙ c.if-has_other.false in
    on_ok_from c.put_first.result
    (λ written. written_entries pair_cmp_total pairs_alone (both_flat old numbers) (both_flat new numbers)
    (c.args.pid, c.args.key.items) c.args.handle
    (λ q. at_both new numbers c.put_first.ensures.ordered c.self.invariant.1 q.0 q.1
    ∙ first_put old new numbers number (record { key = c.args.key; handle = c.args.handle }) own written q.0 q.1
    ∙ ap (λ n. cond (eq_by_cmp pair_cmp (n, c.args.key.items) q) (Some c.args.handle)
    (at_either old numbers q.0 q.1)) fits
    ∙ ap (cond (eq_by_cmp pair_cmp (c.args.pid, c.args.key.items) q) (Some c.args.handle))
    (sym (at_both old numbers c.self.invariant.0 c.self.invariant.1 q.0 q.1)))
    ∙ ap (λ m. map.insert m (c.args.pid, c.args.key.items) c.args.handle) c.self.view_is)
    c.put_first.ensures.ok
