use Rattle.std.proofs.Common.{arith}
use Rattle.pgw_link.proofs.stream_link.StreamLink.fail.Goals as goal

pub returns-clause-rose : goal.returns-clause-rose
returns-clause-rose g c = omega arith
