use Rattle.std.proofs.Common.{◌∙◌}
use Rattle.pgw_client_calls.proofs.RowLaws.{given_through, stays_through, not_longer}
use Rattle.pgw_client_calls.proofs.connection.Connection.take_rows_in_exchange.Goals as goal

pub returns-clause-taken : goal.returns-clause-taken
returns-clause-taken g c =
    let parts = c.into_parts-parts in
    let rows = c.take_rows-taken in
    given_through g.H.ExtendedQueryHandler.means c.args.handler.now rows.new.self
    (g.H.Responses.ResponseList.listed c.args.responses.now)
    (g.H.Responses.ResponseList.listed rows.new.responses) parts.result.front rows.new.bytes
    parts.result.behind.items c.args.self.now.inbox c.into_inbox.result rows.result
    (parts.ensures ∙ c.replace.ensures.value ∙ c.settle.ensures) c.into_inbox.ensures rows.ensures.taken

pub returns-clause-shorter : goal.returns-clause-shorter
returns-clause-shorter g c =
    let parts = c.into_parts-parts in
    let rows = c.take_rows-taken in
    let are = parts.ensures ∙ c.replace.ensures.value ∙ c.settle.ensures in
    not_longer g.H.ExtendedQueryHandler.means c.args.handler.now rows.new.self
    (g.H.Responses.ResponseList.listed c.args.responses.now)
    (g.H.Responses.ResponseList.listed rows.new.responses) c.args.self.now.inbox c.into_inbox.result
    rows.result
    (given_through g.H.ExtendedQueryHandler.means c.args.handler.now rows.new.self
    (g.H.Responses.ResponseList.listed c.args.responses.now)
    (g.H.Responses.ResponseList.listed rows.new.responses) parts.result.front rows.new.bytes
    parts.result.behind.items c.args.self.now.inbox c.into_inbox.result rows.result are
    c.into_inbox.ensures rows.ensures.taken)
    (stays_through c.args.handler.now rows.new.self c.args.responses.now rows.new.responses parts.result.front
    rows.new.bytes parts.result.behind.items c.args.self.now.inbox c.into_inbox.result rows.result are
    c.into_inbox.ensures rows.ensures.err)
