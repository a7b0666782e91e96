use Rattle.std.proofs.Common.{◌≡◌, ap, ◌∙◌, sym, Bool, ◌&&◌, nat_eq, List, ℕ}
use Rattle.std.specs.FinMap as map
use Rattle.std.specs.Cmp.Lexicographic.{pointwise}
use Rattle.pgw_wire.proofs.ParamLaws.{Pairs, entries_of, same_params}
use Rattle.pgw_wire.proofs.params.ParamsPartialEq.eq.Goals as goal

abbrev same : Pairs → Pairs → Bool
same a b = pointwise (λ (p q : List ℕ × List ℕ). pointwise nat_eq p.0 q.0 && pointwise nat_eq p.1 q.1) a b

are_same : (c : goal.After-same_pairs)
    → c.same_pairs.result ≡ same (map.entries c.args.self.now) (map.entries c.args.other.now)
are_same c =
    let mine =
    sym (entries_of c.self.inside.held.entries c.self.invariant) ∙ ap (λ m. map.entries m) c.self.view_is in
    let others =
    sym (entries_of c.other.inside.held.entries c.other.invariant)
    ∙ ap (λ m. map.entries m) c.other.view_is in
    c.same_pairs.ensures ∙ ap (λ (es : Pairs). same es c.other.inside.held.entries) mine
    ∙ ap (same (map.entries c.args.self.now)) others

pub returns-clause-value : goal.returns-clause-value
returns-clause-value c = are_same c

pub returns-clause-same : goal.returns-clause-same
returns-clause-same c = same_params c.args.self.now c.args.other.now c.same_pairs.result (are_same c)
