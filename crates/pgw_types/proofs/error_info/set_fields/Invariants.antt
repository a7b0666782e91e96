use Rattle.std.proofs.Common.{◌≡◌}
use Rattle.std.specs.List.{filter_map}
use Rattle.pgw_types.specs.Infos.{info_field}
use Rattle.pgw_types.proofs.error_info.set_fields.Given as goal

abbrev pub invariant-loop-code : goal.invariant-loop-code
invariant-loop-code l = l.fields ≡ filter_map info_field l.yielded
