use Rattle.std.proofs.Common.{◌≡◌}
use Rattle.pgw_registry_tests.proofs.single.many.Given as goal

abbrev pub invariant-loop : goal.invariant-loop
invariant-loop l = l.seat.of ≡ l.fn.seat.of
