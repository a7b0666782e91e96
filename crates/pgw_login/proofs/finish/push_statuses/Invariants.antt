use Rattle.std.proofs.Common.{◌≡◌, ◌++◌, map}
use Rattle.std.specs.FinMap as finite
use Rattle.pgw_login.specs.Finish.{status_message}
use Rattle.pgw_login.proofs.finish.push_statuses.Given as goal

abbrev pub invariant-loop-name : goal.invariant-loop-name
invariant-loop-name l =
    (goal.iterator-loop-name).can_next l.name-iterator ×
    (goal.iterator-loop-name).is_finite l.name-iterator ×
    (l.messages.items ++ map status_message l.name-iterator ≡ l.fn.messages.items ++ map status_message
    (finite.entries l.parameters))
