use Rattle.pgw_client_calls.specs.Desk.{sight_of}
use Rattle.pgw_client_calls.proofs.RequestLaws.{called_starved, called_opened, called_closed}
use Rattle.pgw_client_calls.proofs.ForetoldLaws.{foretold_on}
use Rattle.pgw_client_calls.proofs.connection.Connection.request.Goals as goal

pub returns-in-Err-clause-called : goal.returns-in-Err-clause-called
returns-in-Err-clause-called g c =
    called_starved g.H.ExtendedQueryHandler.means c.args.request.now c.args.handler.now _ _ _ _
    (c.args.self.now.flushed c.requires.usable)

pub returns-in-Ok-begin-clause-called : goal.returns-in-Ok-begin-clause-called
returns-in-Ok-begin-clause-called g c =
    let o = c.hand_all-opened in
    called_opened g.H.ExtendedQueryHandler.means c.args.request.now c.args.handler.now o.new.handler _
    (sight_of c.clear.new.self) (sight_of o.new.desk) _ _ (c.args.self.now.flushed c.requires.usable)
    c.in-Ok.messages.items o.result
    c.in-Ok.ensures (c.clear.ensures.fresh c.requires.usable) o.ensures.opens _ _ _ c.kind_of.result _
    c.in-Ok-begin.ensures.opens c.begin.ensures.client c.kind_of.ensures c.exchange.ensures.exchanged

pub returns-in-Err-begin-clause-called : goal.returns-in-Err-begin-clause-called
returns-in-Err-begin-clause-called g c =
    let o = c.hand_all-opened in
    called_closed g.H.ExtendedQueryHandler.means c.args.request.now c.args.handler.now o.new.handler _
    (sight_of c.clear.new.self) (sight_of o.new.desk) _ _ (c.args.self.now.flushed c.requires.usable)
    c.in-Ok.messages.items o.result
    c.in-Ok.ensures (c.clear.ensures.fresh c.requires.usable) o.ensures.opens c.in-Err-begin.error _ _
    o.ensures.cause c.in-Err-begin.ensures.opens c.begin.ensures.client

pub returns-in-Ok-begin-clause-foretold : goal.returns-in-Ok-begin-clause-foretold
returns-in-Ok-begin-clause-foretold g c =
    λ t. foretold_on _ _ _ _ _ _ (g.met.L.Link.knows t c.begin.new.self.link) (c.begin.ensures.foretold t)
    (c.exchange.ensures.foretold t)
