use Rattle.std.proofs.Common.{◌≡◌, string_bytes}
use Rattle.std.specs.List.{flat_map}
use Rattle.pgw_prog_output.specs.Shown.{visible}
use Rattle.pgw_prog_output.proofs.shown.plain.Given as goal

abbrev pub invariant-loop-c : goal.invariant-loop-c
invariant-loop-c l = string_bytes l.plain ≡ flat_map visible l.yielded
