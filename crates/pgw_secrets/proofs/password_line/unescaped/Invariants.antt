use Rattle.std.proofs.Common.{◌≡◌, ◌++◌, drop, false}
use Rattle.pgw_secrets.specs.PasswordReader.{value_from}
use Rattle.pgw_secrets.proofs.password_line.unescaped.Given as goal

abbrev pub invariant-loop-byte : goal.invariant-loop-byte
invariant-loop-byte l = l.value.items ++ value_from l.escaped (drop l.byte-index l.text) ≡ value_from false l.text
