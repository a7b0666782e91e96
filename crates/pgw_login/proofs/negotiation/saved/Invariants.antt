use Rattle.std.proofs.Common.{◌≡◌, fold}
use Rattle.std.specs.FinMap as map
use Rattle.pgw_login.proofs.negotiation.saved.Given as goal

abbrev pub invariant-loop-name : goal.invariant-loop-name
invariant-loop-name l =
    (goal.iterator-loop-name).can_next l.name-iterator ×
    (goal.iterator-loop-name).is_finite l.name-iterator ×
    (fold (λ m p. map.insert m p.0 p.1) l.all l.name-iterator ≡ fold (λ m p. map.insert m p.0 p.1) l.metadata
    (map.entries l.parameters))
