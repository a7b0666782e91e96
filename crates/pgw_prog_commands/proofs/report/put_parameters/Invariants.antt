use Rattle.std.proofs.Common.{◌≡◌, ◌++◌, map}
use Rattle.std.specs.FinMap as finite
use Rattle.pgw_prog_commands.specs.Report.{lines_text, report_parameter}
use Rattle.pgw_prog_commands.proofs.report.put_parameters.Given as goal

abbrev pub invariant-loop-name : goal.invariant-loop-name
invariant-loop-name l =
    (goal.iterator-loop-name).can_next l.name-iterator ×
    (goal.iterator-loop-name).is_finite l.name-iterator ×
    (l.out.items ++ lines_text (map report_parameter l.name-iterator)
    ≡ l.fn.out.items ++ lines_text (map report_parameter (finite.entries l.parameters)))
