use Rattle.std.proofs.Common.{◌≡◌, map}
use Rattle.hothummei_c.specs.Report.{told_of}
use Rattle.hothummei_c.proofs.report.tolds_of.Given as goal

abbrev pub invariant-loop-answer : goal.invariant-loop-answer
invariant-loop-answer l = l.all ≡ map told_of l.yielded
