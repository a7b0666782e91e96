use Rattle.std.proofs.Common.{refl}
use Rattle.pgw_config.proofs.config.Config.set_password.Goals as goal

pub returns-clause-set : goal.returns-clause-set
returns-clause-set c = rw c.in_ok-from_slice.ensures refl
