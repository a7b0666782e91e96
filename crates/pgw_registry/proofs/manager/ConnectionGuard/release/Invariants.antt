use Rattle.pgw_registry.specs.declared.call.Call.TheVariants.{Release}
use Rattle.pgw_registry.proofs.manager.ConnectionGuard.release.Given as goal

abbrev pub ghosts-take_away : goal.ghosts-take_away
ghosts-take_away g a = record { call = Release a.pid a.key.now }
