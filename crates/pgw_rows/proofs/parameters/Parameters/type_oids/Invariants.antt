use Rattle.std.proofs.Common.{◌≡◌, map, take}
use Rattle.pgw_rows.specs.Written.{type_oid}
use Rattle.pgw_rows.proofs.parameters.Parameters.type_oids.Given as goal

abbrev pub invariant-loop-parameter : goal.invariant-loop-parameter
invariant-loop-parameter l = l.oids.items ≡ map type_oid (take l.parameter-index l.parameter-items)
