use Rattle.std.proofs.Common.{◌≡◌, ap, sym, ◌∙◌, arith}
use Rattle.std.proofs.lemmas.Int.{to_z-of_z}
use mir.Syntax.{w32}
use mir.Val.{to_z, of_z}
use Rattle.std.specs.FinMap as map
use Rattle.pgw_registry.specs.Nested.{both_flat, at_either}
use Rattle.pgw_registry.proofs.Nesting.{pair_cmp_total, at_both}
use Rattle.pgw_registry.proofs.pairs.Pairs.get.Goals as goal

pub returns : goal.returns
returns c =
    let fits : to_z w32 (of_z w32 c.args.pid) ≡ c.args.pid = grind (arith, to_z-of_z) in
    let firsts = c.self.inside.firsts.entries in
    let numbers = c.self.inside.numbers.entries in
    c.find.ensures
    ∙ ap (λ n. at_either firsts numbers n c.args.key.now) fits
    ∙ sym (map.get-from_entries pair_cmp_total (both_flat firsts numbers) (c.args.pid, c.args.key.now)
    ∙ at_both firsts numbers c.self.invariant.0 c.self.invariant.1 c.args.pid c.args.key.now)
    ∙ ap (λ m. map.get m (c.args.pid, c.args.key.now)) c.self.view_is
