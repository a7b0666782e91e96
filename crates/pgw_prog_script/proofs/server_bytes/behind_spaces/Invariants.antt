use Rattle.std.proofs.Common.{◌≡◌, drop}
use Rattle.pgw_prog_script.specs.ServerBytes.{digits}
use Rattle.pgw_prog_script.proofs.server_bytes.behind_spaces.Given as goal

abbrev pub invariant-loop-at : goal.invariant-loop-at
invariant-loop-at l = digits (drop l.at l.fn.text) ≡ digits l.fn.text
