use Rattle.std.proofs.Common.{take}
use Rattle.pgw_secrets.specs.Found.{Lacks}
use Rattle.pgw_secrets.proofs.password_line.line_end.Given as goal

abbrev pub invariant-loop-i : goal.invariant-loop-i
invariant-loop-i l = Lacks 10 (take l.i l.text)
