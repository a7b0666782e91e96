use Rattle.pgw_handlers_default.proofs.RowLaws.{rows_kept_on}
use Rattle.pgw_handlers_default.proofs.extended.DefaultExtendedQueryHandlerExtendedQueryHandler.take_rows.Goals as goal

pub returns-clause-taken : goal.returns-clause-taken
returns-clause-taken c =
    rows_kept_on c.args.self.now c.args.rows.now c.take_front.new.self c.args.bytes.now c.take_front.new.bytes
    c.take_front.result c.take_front.ensures.taken
