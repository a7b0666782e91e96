use Rattle.pgw_registry.specs.declared.call.Call.TheVariants.{Cancel}
use Rattle.pgw_registry.proofs.manager.ConnectionManager.cancel.Given as goal

abbrev pub ghosts-cancel_pair : goal.ghosts-cancel_pair
ghosts-cancel_pair g a = record { call = Cancel a.pid a.key.now }
