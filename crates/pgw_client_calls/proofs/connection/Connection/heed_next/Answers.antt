use Rattle.std.proofs.Common.{ap}
use Rattle.pgw_client_calls.specs.Desk.{client_of}
use Rattle.pgw_client_calls.proofs.ExchangeLaws.{heeded_nothing, heeded_from}
use Rattle.pgw_client_calls.proofs.ForetoldLaws.{foretold_on}
use Rattle.pgw_client_calls.proofs.connection.Connection.heed_next.Goals as goal

pub returns-in-Err-clause-heeded : goal.returns-in-Err-clause-heeded
returns-in-Err-clause-heeded g c =
    heeded_nothing g.H.ExtendedQueryHandler.means c.args.kind _ _ _ _ (c.args.self.now.flushed c.requires.usable)
    _ _ c.in-Err.error (ap client_of c.next_message.ensures.desk) c.in-Err.ensures.came

pub returns-in-Ok-clause-heeded : goal.returns-in-Ok-clause-heeded
returns-in-Ok-clause-heeded g c =
    heeded_from g.H.ExtendedQueryHandler.means c.args.kind _ _ _ _ _ _ _ c.in-Ok.message _ _ _ c.heed_one.result _
    (ap client_of c.next_message.ensures.desk) (c.args.self.now.flushed c.requires.usable)
    c.in-Ok.ensures.came c.heed_one.ensures.heeded

pub returns-in-Ok-clause-foretold : goal.returns-in-Ok-clause-foretold
returns-in-Ok-clause-foretold g c =
    λ t. foretold_on _ _ _ _ _ _ (g.met.L.Link.knows t c.next_message.new.self.link)
    (c.next_message.ensures.foretold t) (c.heed_one.ensures.foretold t)
