use Rattle.pgw_registry.proofs.Firing.{fired_law}
use Rattle.pgw_registry.proofs.laws.fired_after_cancel.Goals as goal

pub returns : goal.returns
returns c = fired_law
