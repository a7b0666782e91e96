use Rattle.pgw_client_calls.proofs.LentLaws.{asks_starved}
use Rattle.pgw_client_calls.proofs.extended.ExtendedQueryClient.starve.Goals as goal

pub returns-clause-asks : goal.returns-clause-asks
returns-clause-asks g c = λ q.
    let s = c.starve.ensures in
    asks_starved g.L.Link.foretells g.L.Link.left g.L.Link.tape g.L.Link.faults g.H.ExtendedQueryHandler.means
    g.H.Responses.ResponseList.listed q c.args.self.now.handler.now c.args.self.now.client.now
    c.starve.new.self c.starve.result s.flushed s.broken s.starved s.line s.link s.within s.config
