use Rattle.std.proofs.Common.{◌≡◌}
use Rattle.pgw_config_environment.specs.Places.{first_places}
use Rattle.pgw_config_environment.proofs.places.first_places.Given as goal

abbrev pub invariant-loop-at : goal.invariant-loop-at
invariant-loop-at l = l.places ≡ first_places l.config l.at
