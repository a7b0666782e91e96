use Rattle.pgw_registry.specs.declared.call.Call.TheVariants.{Finish}
use Rattle.pgw_registry.proofs.manager.CancelToken.finish.Given as goal

abbrev pub ghosts-forget : goal.ghosts-forget
ghosts-forget g a = record { call = Finish a.query }
