use Rattle.pgw_registry.specs.declared.call.Call.TheVariants.{StartQuery}
use Rattle.pgw_registry.proofs.manager.ConnectionHandle.start_query.Given as goal

abbrev pub ghosts-start : goal.ghosts-start
ghosts-start g a = record { call = StartQuery a.handle }
