use Rattle.std.proofs.Common.{rules}
use Rattle.pgw_wire.specs.Writing.{i32}
use Rattle.pgw_registry.proofs.manager.ConnectionManager.cancel.Goals as goal

pub returns-in-I32-clause-ok : goal.returns-in-I32-clause-ok
unfolding i32
returns-in-I32-clause-ok g c = search rules

pub returns-in-Bytes-clause-ok : goal.returns-in-Bytes-clause-ok
returns-in-Bytes-clause-ok g c = search rules
