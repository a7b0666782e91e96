use Rattle.std.proofs.Common.{ap, refl}
use Rattle.pgw_client_calls.specs.Desk.{client_of}
use Rattle.pgw_client_calls.specs.Talk.{passes}
use Rattle.pgw_client_calls.proofs.RowLaws.{heard_behind, talked_starved}
use Rattle.pgw_client_calls.proofs.connection.Connection.go_on_in_query.Goals as goal

pub returns-in-Ok-clause-heard : goal.returns-in-Ok-clause-heard
returns-in-Ok-clause-heard g c =
    let rows = c.take_rows_in_query in
    let t = rows.ensures in
    heard_behind g.H.SimpleQueryHandler.means passes c.args.handler.now rows.new.handler
    c.hear_in_query.new.handler (client_of c.args.self.now.desk) (client_of rows.new.self.desk)
    (client_of c.hear_in_query.new.self.desk)
    (g.L.Link.tape c.args.self.now.link) (g.L.Link.tape rows.new.self.link) (g.L.Link.faults c.args.self.now.link)
    (g.L.Link.faults rows.new.self.link) c.args.self.now.read rows.new.self.read c.args.self.now.limit
    rows.new.self.limit _
    c.args.self.now.inbox rows.new.self.inbox _ _ c.hear_in_query.result
    (ap client_of t.desk) (ap g.L.Link.tape t.link) (ap g.L.Link.faults t.link) t.read t.limit
    c.in-Ok.ensures.taken c.hear_in_query.ensures.heard

pub returns-in-Err-clause-heard : goal.returns-in-Err-clause-heard
returns-in-Err-clause-heard g c =
    let t = c.take_rows_in_query.ensures in
    talked_starved g.H.SimpleQueryHandler.means passes c.args.handler.now (client_of c.args.self.now.desk) _ _ _
    (c.args.self.now.flushed c.requires) (rw (t.link, t.read, t.limit, c.in-Err.ensures.err) refl)
