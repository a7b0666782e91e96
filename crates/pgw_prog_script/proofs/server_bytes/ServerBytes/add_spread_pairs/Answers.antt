use Rattle.std.proofs.Common.{◌≡◌, ◌∷◌, ℕ, List, Some, None, ap, sym, ◌∙◌, arith}
use Rattle.pgw_prog_script.specs.ServerBytes.{digits}
use Rattle.pgw_prog_script.proofs.HexLaws.{told_first, told_pair, told_half, told_other, told_end}
use Rattle.pgw_prog_script.proofs.server_bytes.ServerBytes.add_spread_pairs.Goals as goal

pub loop-first-init : goal.loop-first-init
loop-first-init c = told_first c.args.self.now _ c.args.text.now c.self.view_is

pub returns-in_default-next_digit : goal.returns-in_default-next_digit
returns-in_default-next_digit c =
    told_half c.args.self.now _ c.args.text.now c.loop-first.rest.now c.in-Some.first c.loop-first.invariant
    (c.in-Some.ensures.0
    ∙ ap (λ (l : List ℕ). c.in-Some.first ∷ l) c.in_default-next_digit.ensures)

pub returns-in_default-digit_of : goal.returns-in_default-digit_of
returns-in_default-digit_of c =
    let both = c.in-Some.ensures.0 ∙ ap (λ (l : List ℕ). c.in-Some.first ∷ l) c.in-Some-next_digit.ensures.0 in
    told_other c.args.self.now _ c.args.text.now c.loop-first.rest.now (digits c.in-Some-next_digit.more.now)
    c.in-Some.first c.in-Some-next_digit.second c.loop-first.invariant both (λ d e high low.
    let no : None ≡ Some d = sym c.in_default-digit_of.is ∙ c.digit_of.ensures.value ∙ high in
    cc)

pub returns-in_default-digit_of-2 : goal.returns-in_default-digit_of-2
returns-in_default-digit_of-2 c =
    let both = c.in-Some.ensures.0 ∙ ap (λ (l : List ℕ). c.in-Some.first ∷ l) c.in-Some-next_digit.ensures.0 in
    told_other c.args.self.now _ c.args.text.now c.loop-first.rest.now (digits c.in-Some-next_digit.more.now)
    c.in-Some.first c.in-Some-next_digit.second c.loop-first.invariant both (λ d e high low.
    let no : None ≡ Some e = sym c.in_default-digit_of-2.is ∙ c.digit_of-in-Some.ensures.value ∙ low in
    cc)

pub loop-first-smaller : goal.loop-first-smaller
loop-first-smaller c = omega (arith, c.in-Some.ensures.1, c.in-Some-next_digit.ensures.1)

pub loop-first-preserved : goal.loop-first-preserved
loop-first-preserved c =
    let both = c.in-Some.ensures.0 ∙ ap (λ (l : List ℕ). c.in-Some.first ∷ l) c.in-Some-next_digit.ensures.0 in
    told_pair c.args.self.now _ _ c.args.text.now c.loop-first.rest.now c.in-Some-next_digit.more.now
    c.in-Some.first c.in-Some-next_digit.second c.in-Some-digit_of.high c.in-Some-digit_of-2.low
    c.loop-first.invariant both
    (sym c.digit_of.ensures.value ∙ c.in-Some-digit_of.is) (sym c.digit_of-in-Some.ensures.value
    ∙ c.in-Some-digit_of-2.is) c.in_ok-push.ensures.items

pub returns : goal.returns
returns c =
    told_end c.args.self.now _ c.args.text.now c.loop-first.rest.now c.loop-first.invariant c.in_default.ensures
