use Rattle.std.proofs.Common.{◌≡◌, map}
use Rattle.hothummei_c.specs.Report.{command_result}
use Rattle.hothummei_c.proofs.report.results_of.Given as goal

abbrev pub invariant-loop-response : goal.invariant-loop-response
invariant-loop-response l = l.all ≡ map command_result l.yielded
