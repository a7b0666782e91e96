use Rattle.pgw_registry.specs.declared.call.Call.TheVariants.{Register}
use Rattle.pgw_registry.proofs.manager.ConnectionManager.add_copied.Given as goal

abbrev pub ghosts-add : goal.ghosts-add
ghosts-add g a = record { call = Register a.pid a.key }
