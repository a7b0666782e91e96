use Rattle.pgw_registry.specs.declared.call.Call.TheVariants.{CloseHandle}
use Rattle.pgw_registry.proofs.manager.ConnectionHandle.close.Given as goal

abbrev pub ghosts-give_up : goal.ghosts-give_up
ghosts-give_up g a = record { call = CloseHandle a.handle }
