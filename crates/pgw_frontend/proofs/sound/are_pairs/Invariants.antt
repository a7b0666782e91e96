use Rattle.std.specs.FinMap as map
use Rattle.std.specs.List.{AllByRecursion}
use Rattle.pgw_startup.specs.Sound.{IsPair}
use Rattle.pgw_frontend.proofs.sound.are_pairs.Given as goal

abbrev pub invariant-loop-name : goal.invariant-loop-name
invariant-loop-name l =
    (goal.iterator-loop-name).can_next l.name-iterator ×
    (goal.iterator-loop-name).is_finite l.name-iterator ×
    (AllByRecursion IsPair l.name-iterator → AllByRecursion IsPair (map.entries l.params))
