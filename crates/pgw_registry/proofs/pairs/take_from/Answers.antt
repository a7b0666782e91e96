use Rattle.std.proofs.Common.{ap, sym, subst, refl, ◌∙◌, IsSome, cond, Some, None}
use Rattle.std.specs.Ordering.{eq_by_cmp, int_cmp}
use Rattle.std.specs.BTreeMap.{is_at}
use Rattle.std.specs.Map.{lookup}
use Rattle.std.specs.Option.{option_copied_mut}
use Rattle.pgw_registry.specs.Pairs.{bytes_cmp}
use Rattle.pgw_registry.specs.Nested.{at_key, in_number, at_pair}
use Rattle.pgw_registry.proofs.Nesting.{changed, none_to_take, in_some, in_none, at_nothing, forgotten}
use Rattle.pgw_registry.proofs.pairs.take_from.Goals as goal

pub returns-in_default-clause-taken : goal.returns-in_default-clause-taken
returns-in_default-clause-taken c p q =
    ap (λ m. at_pair m.entries p q) c.get_mut.follows.holds-at-none
    ∙ none_to_take c.args.numbers.now.entries c.args.pid.now c.args.key.now (sym c.get_mut.ensures.value
    ∙ ap option_copied_mut c.in_default.is) p q

pub returns-then-is_last-clause-taken : goal.returns-then-is_last-clause-taken
returns-then-is_last-clause-taken c =
    let now = c.is_last.new.keys in
    let there = c.in-Some.ensures.value in
    let outer = ((c.get_mut.follows.holds now).3 (subst IsSome there refl)).0 in
    changed c.args.numbers.now.entries c.remove.new.self.entries c.args.pid.now c.args.key.now None None
    (λ p. c.remove.ensures.updates.0 p ∙ ap (cond (is_at (int_cmp c.args.pid.now) p) None) (outer p)
    ∙ forgotten (is_at (int_cmp c.args.pid.now) p) (Some now)
    (lookup (is_at (int_cmp p)) c.args.numbers.now.entries))
    (λ q. in_none q ∙ sym (ap (λ ks. at_key ks q) (c.is_last.ensures.last.0 c.if-is_last.true) ∙ at_nothing q)
    ∙ c.is_last.ensures.taken q
    ∙ ap (cond (eq_by_cmp bytes_cmp c.args.key.now q) None) (sym (in_some c.in-Some.keys.now q)
    ∙ ap (λ o. in_number o q) there))

pub returns-else-is_last-clause-taken : goal.returns-else-is_last-clause-taken
returns-else-is_last-clause-taken c =
    let now = c.is_last.new.keys in
    let there = c.in-Some.ensures.value in
    let outer = ((c.get_mut.follows.holds now).3 (subst IsSome there refl)).0 in
    changed c.args.numbers.now.entries (c.get_mut.follows.lender now).entries c.args.pid.now c.args.key.now None
    (Some now) outer
    (λ q. in_some now q ∙ c.is_last.ensures.taken q
    ∙ ap (cond (eq_by_cmp bytes_cmp c.args.key.now q) None) (sym (in_some c.in-Some.keys.now q)
    ∙ ap (λ o. in_number o q) there))
