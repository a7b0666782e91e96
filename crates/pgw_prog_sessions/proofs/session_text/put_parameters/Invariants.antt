use Rattle.std.proofs.Common.{◌≡◌, ◌++◌}
use Rattle.std.specs.List.{flat_map}
use Rattle.std.specs.FinMap as map
use Rattle.pgw_prog_sessions.specs.SessionText.{parameter_line}
use Rattle.pgw_prog_sessions.proofs.session_text.put_parameters.Given as goal

abbrev pub invariant-loop-name : goal.invariant-loop-name
invariant-loop-name l =
    (goal.iterator-loop-name).can_next l.name-iterator ×
    (goal.iterator-loop-name).is_finite l.name-iterator ×
    (l.out.items ++ flat_map parameter_line l.name-iterator ≡ l.fn.out.items ++ flat_map parameter_line
    (map.entries l.parameters))
