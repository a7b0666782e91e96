use Rattle.std.proofs.Common.{rules}
use Rattle.pgw_client_calls.proofs.connection.Connection.read_more.Goals as goal

pub invariant_of-self-2 : goal.invariant_of-self-2
invariant_of-self-2 g c = search rules
