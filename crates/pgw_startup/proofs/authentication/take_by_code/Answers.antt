use Rattle.std.proofs.Common.{rules}
use Rattle.pgw_startup.specs.Login.{by_code}
use Rattle.pgw_startup.proofs.authentication.take_by_code.Goals as goal

pub returns-in-11 : goal.returns-in-11
unfolding by_code
returns-in-11 c = search rules
