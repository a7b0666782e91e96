use Rattle.std.proofs.Common.{sym}
use Rattle.pgw_registry.proofs.Nesting.{first_taken, none_first}
use Rattle.pgw_registry.proofs.pairs.take_first.Goals as goal

pub returns-clause-taken : goal.returns-clause-taken
returns-clause-taken c =
    first_taken c.args.firsts.now.entries c.remove.new.self.entries c.args.pid.now c.args.key.now _
    (sym c.in-Some.ensures) c.remove.ensures.updates.0

pub returns-in_default-clause-taken : goal.returns-in_default-clause-taken
returns-in_default-clause-taken c =
    none_first c.args.firsts.now.entries c.args.pid.now c.args.key.now (sym c.in_default.ensures)
