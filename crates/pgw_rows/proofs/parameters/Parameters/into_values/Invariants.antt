use Rattle.std.proofs.Common.{◌≡◌, map}
use Rattle.pgw_rows.specs.Written.{value_bytes}
use Rattle.pgw_rows.proofs.parameters.Parameters.into_values.Given as goal

abbrev pub invariant-loop-parameter : goal.invariant-loop-parameter
invariant-loop-parameter l = l.values.items ≡ map value_bytes l.yielded
