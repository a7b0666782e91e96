use Rattle.pgw_handlers.proofs.RowLaws.{takes_none}
use Rattle.pgw_handlers_default.specs.Simple.{QueryMeans}
use Rattle.pgw_handlers_default.proofs.RowLaws.{rows_noted_on}
use Rattle.pgw_handlers_default.proofs.simple.DefaultSimpleQueryHandlerSimpleQueryHandler.take_rows.Goals as goal

pub returns-then-is_some-clause-taken : goal.returns-then-is_some-clause-taken
returns-then-is_some-clause-taken c = takes_none QueryMeans c.args.self.now c.args.bytes.now

pub returns-in-Some-clause-taken : goal.returns-in-Some-clause-taken
returns-in-Some-clause-taken c =
    rows_noted_on c.args.self.now.tally c.in-Some.opened c.take_front.new.self c.args.bytes.now
    c.take_front.new.bytes c.is_some.result c.take_front.result c.in-Some.is c.if-is_some.false
    c.is_some.ensures c.take_front.ensures.taken

pub returns-in-None-clause-taken : goal.returns-in-None-clause-taken
returns-in-None-clause-taken c = takes_none QueryMeans c.args.self.now c.args.bytes.now
