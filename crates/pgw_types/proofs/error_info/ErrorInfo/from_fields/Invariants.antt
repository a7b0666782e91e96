use Rattle.std.proofs.Common.{◌≡◌}
use Rattle.pgw_types.specs.Infos.{info_from}
use Rattle.pgw_types.proofs.error_info.ErrorInfo.from_fields.Given as goal

abbrev pub invariant-loop-code : goal.invariant-loop-code
invariant-loop-code l = l.info ≡ info_from l.yielded
