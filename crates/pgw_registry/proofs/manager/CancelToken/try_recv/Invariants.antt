use Rattle.pgw_registry.specs.declared.call.Call.TheVariants.{Look}
use Rattle.pgw_registry.proofs.manager.CancelToken.try_recv.Given as goal

abbrev pub ghosts-look_at : goal.ghosts-look_at
ghosts-look_at g a = record { call = Look a.query }
