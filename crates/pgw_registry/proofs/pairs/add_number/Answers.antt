use Rattle.std.proofs.Common.{◌≡◌, ap, sym, ◌∙◌, cond, Some, arith}
use Rattle.std.proofs.lemmas.Int.{to_z-of_z}
use mir.Syntax.{w32}
use mir.Val.{to_z, of_z}
use Rattle.std.specs.Ordering.{eq_by_cmp, int_cmp}
use Rattle.std.specs.BTreeMap.{is_at}
use Rattle.std.specs.Map.{lookup}
use Rattle.pgw_registry.specs.Pairs.{bytes_cmp}
use Rattle.pgw_registry.specs.Nested.{at_key, in_number}
use Rattle.pgw_registry.proofs.Nesting.{changed, in_some, in_none, at_nothing}
use Rattle.pgw_registry.proofs.pairs.add_number.Goals as goal

pub returns-clause-ok : goal.returns-clause-ok
returns-clause-ok c =
    let fits : to_z w32 (of_z w32 c.args.pid.now) ≡ c.args.pid.now = grind (arith, to_z-of_z) in
    changed c.args.numbers.now.entries c.insert.new.self.entries c.args.pid.now c.args.key.items
    (Some c.args.handle) (Some c.add_key.new.keys)
    (λ p. c.in_ok-insert.ensures.updates.0 p
    ∙ ap (λ n. cond (is_at (int_cmp n) p) (Some c.add_key.new.keys)
    (lookup (is_at (int_cmp p)) c.args.numbers.now.entries)) fits)
    (λ q. in_some c.add_key.new.keys q
    ∙ c.in_ok-add_key.ensures.ok q
    ∙ ap (cond (eq_by_cmp bytes_cmp c.args.key.items q) (Some c.args.handle))
    (ap (λ ks. at_key ks q) c.new-keys.ensures.empty ∙ at_nothing q ∙ sym (in_none q)
    ∙ ap (λ o. in_number o q) (sym c.requires)))
