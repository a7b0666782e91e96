use Rattle.std.proofs.Common.{◌≡◌, ℤ, List, ℕ, Some, arith, sym, ap, ◌∙◌}
use Rattle.std.proofs.lemmas.Int.{to_z-of_z}
use mir.Syntax.{w32}
use mir.Val.{to_z, of_z}
use Rattle.pgw_registry.proofs.Holders.{some_is, not_none}
use Rattle.pgw_registry.proofs.Names.{forgets_none, forgets_one, forgets_other, named_only}
use Rattle.pgw_registry.proofs.registry.forget_pair.Goals as goal

pub returns-in_default-clause-pairs : goal.returns-in_default-clause-pairs
returns-in_default-clause-pairs c = forgets_none c.args.pairs.now c.args.number (λ q e.
    not_none _ (sym (sym (c.requires.1 q.0 q.1 c.args.number e).1 ∙ sym c.remove.ensures.value
    ∙ c.in_default.is)))

pub returns-in_default-get-clause-pairs : goal.returns-in_default-get-clause-pairs
returns-in_default-get-clause-pairs c =
    let n : ℤ = to_z w32 (of_z w32 c.in-Some.pair.pid) in
    let fits : n ≡ c.in-Some.pair.pid = grind (arith, to_z-of_z) in
    let k : ℤ × List ℕ = (n, c.as_slice-key.result.now) in
    forgets_other c.args.pairs.now c.args.number k (λ e. not_none c.args.number (sym c.in_default-get.is
    ∙ c.get.ensures ∙ e))
    (named_only c.args.pairs.now c.args.names.now c.requires.0 c.args.number c.in-Some.pair k c.requires.1
    (sym c.remove.ensures.value
    ∙ c.in-Some.is) (λ i. (sym fits i, sym c.as_slice-key.ensures i)))

pub returns-then-found-number-clause-pairs : goal.returns-then-found-number-clause-pairs
returns-then-found-number-clause-pairs c =
    let n : ℤ = to_z w32 (of_z w32 c.in-Some.pair.pid) in
    let fits : n ≡ c.in-Some.pair.pid = grind (arith, to_z-of_z) in
    let k : ℤ × List ℕ = (n, c.as_slice-key.result.now) in
    c.remove-then-found-number.ensures
    ∙ forgets_one c.args.pairs.now c.args.number k (sym c.get.ensures ∙ c.in-Some-get.is
    ∙ ap Some c.if-found-number.true)
    (named_only c.args.pairs.now c.args.names.now c.requires.0 c.args.number c.in-Some.pair k c.requires.1
    (sym c.remove.ensures.value
    ∙ c.in-Some.is) (λ i. (sym fits i, sym c.as_slice-key.ensures i)))

pub returns-clause-pairs : goal.returns-clause-pairs
returns-clause-pairs c =
    let n : ℤ = to_z w32 (of_z w32 c.in-Some.pair.pid) in
    let fits : n ≡ c.in-Some.pair.pid = grind (arith, to_z-of_z) in
    let k : ℤ × List ℕ = (n, c.as_slice-key.result.now) in
    forgets_other c.args.pairs.now c.args.number k
    (λ e. c.if-found-number.false (some_is c.in-Some-get.found c.args.number (sym c.in-Some-get.is ∙ c.get.ensures
    ∙ e)))
    (named_only c.args.pairs.now c.args.names.now c.requires.0 c.args.number c.in-Some.pair k c.requires.1
    (sym c.remove.ensures.value
    ∙ c.in-Some.is) (λ i. (sym fits i, sym c.as_slice-key.ensures i)))
