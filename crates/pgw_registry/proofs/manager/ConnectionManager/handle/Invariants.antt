use Rattle.pgw_registry.specs.declared.call.Call.TheVariants.{NewHandle}
use Rattle.pgw_registry.proofs.manager.ConnectionManager.handle.Given as goal

abbrev pub ghosts-commit : goal.ghosts-commit
ghosts-commit g a = record { call = NewHandle }
