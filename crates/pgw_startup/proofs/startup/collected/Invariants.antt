use Rattle.std.proofs.Common.{◌≡◌}
use Rattle.pgw_wire.specs.Pairs.{from_pairs}
use Rattle.pgw_startup.proofs.startup.collected.Given as goal

abbrev pub invariant-loop-name : goal.invariant-loop-name
invariant-loop-name l = l.params ≡ from_pairs l.yielded
