use Rattle.pgw_client_calls.proofs.RequestLaws.{called_starved}
use Rattle.pgw_client_calls.proofs.connection.Connection.ask.Goals as goal

pub returns-in-Err-clause-called : goal.returns-in-Err-clause-called
returns-in-Err-clause-called g c =
    λ q asked usable. called_starved g.H.ExtendedQueryHandler.means q c.args.handler.now _ _ _ _
    (c.args.self.now.flushed usable)
