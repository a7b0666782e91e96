use Rattle.std.proofs.Common.{◌≡◌, drop, false}
use Rattle.pgw_secrets.specs.PasswordReader.{colon_from}
use Rattle.pgw_secrets.proofs.password_line.scan_for_colon.Given as goal

abbrev pub invariant-loop-i : goal.invariant-loop-i
invariant-loop-i l = colon_from l.escaped l.i (drop l.i l.text) ≡ colon_from false 0 l.text
