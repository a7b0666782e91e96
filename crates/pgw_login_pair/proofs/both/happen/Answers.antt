use Rattle.pgw_login_pair.proofs.EventLaws.{client_event, client_here, client_long, on_ok, server_event}
use Rattle.pgw_login_pair.proofs.both.happen.Goals as goal

pub returns-in-ToServer-clause-happens : goal.returns-in-ToServer-clause-happens
returns-in-ToServer-clause-happens g c = λ generator input w acts are.
    on_ok c.take.result
    (server_event generator input (g.H.StartupHandler.means c.args.server.now.core.handler) acts c.args.client.now
    c.args.server.now c.take.new.self w c.as_slice.result.now c.in-ToServer.count c.args.event
    c.as_slice.ensures c.in-ToServer.is are)
    (c.take.ensures.took w.server are.server_at)

pub returns-in-ToClient-clause-happens : goal.returns-in-ToClient-clause-happens
returns-in-ToClient-clause-happens g c = λ generator input w acts are.
    let bytes = c.as_slice-in-ToClient.result.now in
    on_ok c.take-in-ToClient.result
    (client_event generator input c.args.client.now c.take-in-ToClient.new.self c.args.server.now w bytes
    c.in-ToClient.count c.args.event c.as_slice-in-ToClient.ensures c.in-ToClient.is are)
    (c.take-in-ToClient.ensures.took c.requires.going input
    (client_long generator input c.args.client.now c.args.server.now w bytes c.as_slice-in-ToClient.ensures
    are) (client_here generator input c.args.client.now c.args.server.now w bytes
    c.as_slice-in-ToClient.ensures are))
