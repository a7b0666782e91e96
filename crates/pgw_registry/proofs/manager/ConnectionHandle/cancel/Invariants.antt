use Rattle.pgw_registry.specs.declared.call.Call.TheVariants.{CancelHandle}
use Rattle.pgw_registry.proofs.manager.ConnectionHandle.cancel.Given as goal

abbrev pub ghosts-fire : goal.ghosts-fire
ghosts-fire g a = record { call = CancelHandle a.handle }
