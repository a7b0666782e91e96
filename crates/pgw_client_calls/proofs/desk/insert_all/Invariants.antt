use Rattle.std.proofs.Common.{◌≡◌}
use Rattle.std.specs.FinMap as map
use Rattle.pgw_client_calls.specs.Desk.{insert_all}
use Rattle.pgw_client_calls.proofs.desk.insert_all.Given as goal

abbrev pub invariant-loop-name : goal.invariant-loop-name
invariant-loop-name l =
    (goal.iterator-loop-name).can_next l.name-iterator ×
    (goal.iterator-loop-name).is_finite l.name-iterator ×
    (insert_all l.parameters l.name-iterator ≡ insert_all l.fn.parameters (map.entries l.more))
