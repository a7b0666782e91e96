use Rattle.std.proofs.Common.{ap, sym, subst, refl, ◌∙◌, IsSome, cond, Some}
use Rattle.std.specs.Ordering.{eq_by_cmp}
use Rattle.pgw_registry.specs.Pairs.{bytes_cmp}
use Rattle.pgw_registry.specs.Nested.{in_number}
use Rattle.pgw_registry.proofs.Nesting.{changed, unchanged, in_some, on_ok_from, on_err_from}
use Rattle.pgw_registry.proofs.pairs.add_to.Goals as goal

pub returns-in-Some-clause-ok : goal.returns-in-Some-clause-ok
returns-in-Some-clause-ok c =
    let now = c.add_key.new.keys in
    let there = c.in-Some.ensures.value in
    let outer = ((c.get_mut.follows.holds now).3 (subst IsSome there refl)).0 in
    on_ok_from c.add_key.result
    (λ written. changed c.args.numbers.now.entries (c.get_mut.follows.lender now).entries c.args.pid.now
    c.args.key.items (Some c.args.handle) (Some now) outer
    (λ q. in_some now q ∙ written q
    ∙ ap (cond (eq_by_cmp bytes_cmp c.args.key.items q) (Some c.args.handle))
    (sym (in_some c.in-Some.keys.now q)
    ∙ ap (λ o. in_number o q) there)))
    c.add_key.ensures.ok

pub returns-in-Some-clause-err : goal.returns-in-Some-clause-err
returns-in-Some-clause-err c =
    let now = c.add_key.new.keys in
    let there = c.in-Some.ensures.value in
    let outer = ((c.get_mut.follows.holds now).3 (subst IsSome there refl)).0 in
    on_err_from c.add_key.result
    (λ same. unchanged c.args.numbers.now.entries (c.get_mut.follows.lender now).entries c.args.pid.now
    c.in-Some.keys.now now (sym there) same outer)
    c.add_key.ensures.err
