use Rattle.std.proofs.Common.{◌∙◌}
use Rattle.pgw_client_calls.proofs.RowLaws.{taken_through, kept_through, never_longer}
use Rattle.pgw_client_calls.proofs.connection.Connection.take_rows_in_query.Goals as goal

pub returns-clause-taken : goal.returns-clause-taken
returns-clause-taken g c =
    let parts = c.into_parts-parts in
    let rows = c.take_rows-taken in
    taken_through g.H.SimpleQueryHandler.means c.args.handler.now rows.new.self parts.result.front rows.new.bytes
    parts.result.behind.items c.args.self.now.inbox c.into_inbox.result rows.result
    (parts.ensures ∙ c.replace.ensures.value ∙ c.settle.ensures) c.into_inbox.ensures rows.ensures.taken

pub returns-clause-shorter : goal.returns-clause-shorter
returns-clause-shorter g c =
    let parts = c.into_parts-parts in
    let rows = c.take_rows-taken in
    let are = parts.ensures ∙ c.replace.ensures.value ∙ c.settle.ensures in
    never_longer g.H.SimpleQueryHandler.means c.args.handler.now rows.new.self c.args.self.now.inbox
    c.into_inbox.result rows.result
    (taken_through g.H.SimpleQueryHandler.means c.args.handler.now rows.new.self parts.result.front rows.new.bytes
    parts.result.behind.items c.args.self.now.inbox c.into_inbox.result rows.result are c.into_inbox.ensures
    rows.ensures.taken)
    (kept_through c.args.handler.now rows.new.self parts.result.front rows.new.bytes parts.result.behind.items
    c.args.self.now.inbox c.into_inbox.result rows.result are c.into_inbox.ensures rows.ensures.err)
