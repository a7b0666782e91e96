use Rattle.std.proofs.Common.{◌≡◌, map, take}
use Rattle.pgw_rows.specs.Written.{format_code}
use Rattle.pgw_rows.proofs.parameters.Parameters.format_codes.Given as goal

abbrev pub invariant-loop-parameter : goal.invariant-loop-parameter
invariant-loop-parameter l = l.codes.items ≡ map format_code (take l.parameter-index l.parameter-items)
