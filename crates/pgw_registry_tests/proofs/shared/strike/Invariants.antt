use Rattle.std.proofs.Common.{◌≡◌}
use Rattle.pgw_registry_tests.proofs.shared.strike.Given as goal

abbrev pub invariant-loop : goal.invariant-loop
invariant-loop g l = l.pass.of ≡ l.initial.pass.of
