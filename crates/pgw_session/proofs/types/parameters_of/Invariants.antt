use Rattle.std.proofs.Common.{◌≡◌, take, map}
use Rattle.std.specs.Option.{option_copied}
use Rattle.pgw_session.proofs.types.parameters_of.Given as goal

abbrev pub invariant-loop-value : goal.invariant-loop-value
invariant-loop-value l = l.parameters ≡ map option_copied (take l.value-index l.values)
