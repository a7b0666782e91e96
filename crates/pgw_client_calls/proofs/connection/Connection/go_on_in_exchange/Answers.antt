use Rattle.std.proofs.Common.{ap, refl, sym, ◌∙◌}
use Rattle.pgw_client_calls.specs.Desk.{client_of}
use Rattle.pgw_client_calls.specs.Extended.{as_lists}
use Rattle.pgw_client_calls.proofs.RowLaws.{heeded_as, heeded_behind, exchanged_starved}
use Rattle.pgw_client_calls.proofs.connection.Connection.go_on_in_exchange.Goals as goal

pub returns-in-Ok-clause-heeded : goal.returns-in-Ok-clause-heeded
returns-in-Ok-clause-heeded g c =
    let rows = c.take_rows_in_exchange in
    let t = rows.ensures in
    let listed = g.H.Responses.ResponseList.listed in
    let was = c.args.gathered.now in
    let heed = c.heed_next-in-Ok in
    heeded_behind g.H.ExtendedQueryHandler.means c.args.kind (sym c.takes_rows.ensures
    ∙ c.if-not-takes_rows.false) c.args.handler.now rows.new.handler heed.new.handler
    (client_of c.args.self.now.desk) (client_of rows.new.self.desk) (client_of heed.new.self.desk)
    (as_lists listed was) (as_lists listed (record was { responses = rows.new.responses }))
    (as_lists listed heed.new.gathered)
    (g.L.Link.tape c.args.self.now.link) (g.L.Link.tape rows.new.self.link) (g.L.Link.faults c.args.self.now.link)
    (g.L.Link.faults rows.new.self.link) c.args.self.now.read rows.new.self.read c.args.self.now.limit
    rows.new.self.limit _
    c.args.self.now.inbox rows.new.self.inbox _ _ heed.result
    (ap client_of t.desk) (ap g.L.Link.tape t.link) (ap g.L.Link.faults t.link) t.read t.limit refl
    c.in-Ok.ensures.taken heed.ensures.heeded

pub returns-then-not-takes_rows-clause-heeded : goal.returns-then-not-takes_rows-clause-heeded
returns-then-not-takes_rows-clause-heeded g c =
    heeded_as g.H.ExtendedQueryHandler.means c.args.kind _ _ _ _ _ _ _ _ _ c.heed_next.result
    c.heed_next.ensures.heeded

pub returns-in-Err-clause-heeded : goal.returns-in-Err-clause-heeded
returns-in-Err-clause-heeded g c =
    let t = c.take_rows_in_exchange.ensures in
    exchanged_starved g.H.ExtendedQueryHandler.means c.args.kind c.args.handler.now _
    (client_of c.args.self.now.desk) _ _ _ _ (c.args.self.now.flushed c.requires.usable)
    (rw (t.link, t.read, t.limit, c.in-Err.ensures.err) refl)
