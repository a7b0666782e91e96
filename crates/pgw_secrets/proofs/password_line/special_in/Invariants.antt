use Rattle.std.proofs.Common.{take}
use Rattle.pgw_secrets.specs.Found.{Lacks}
use Rattle.pgw_secrets.proofs.password_line.special_in.Given as goal

abbrev pub invariant-loop-i : goal.invariant-loop-i
invariant-loop-i l = Lacks 58 (take l.i l.text) × Lacks 92 (take l.i l.text)
