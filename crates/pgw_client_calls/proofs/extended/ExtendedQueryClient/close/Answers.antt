use Rattle.std.proofs.Common.{ap, sym}
use Rattle.pgw_session.specs.declared.types.Request.TheVariants as request
use Rattle.pgw_client_calls.specs.Targets.{target_of}
use Rattle.pgw_client_calls.specs.ExtendedSteps.{gathered_as}
use Rattle.pgw_client_calls.specs.Lent.{no_answer}
use Rattle.pgw_client_calls.proofs.LentLaws.{asks_as}
use Rattle.pgw_client_calls.proofs.extended.ExtendedQueryClient.close.Goals as goal

pub returns-in-Ok-clause-asks : goal.returns-in-Ok-clause-asks
returns-in-Ok-clause-asks g c =
    asks_as g.L.Link.foretells g.L.Link.left g.L.Link.tape g.L.Link.faults g.H.ExtendedQueryHandler.means
    g.H.Responses.ResponseList.listed (request.Close (target_of c.args.target)) _ _ _ no_answer _ c.ask.result
    _ (ap (gathered_as no_answer) (sym c.in-Ok.is)) (c.ask.ensures.asks _ c.close.ensures)

pub returns-clause-asks : goal.returns-clause-asks
returns-clause-asks g c =
    asks_as g.L.Link.foretells g.L.Link.left g.L.Link.tape g.L.Link.faults g.H.ExtendedQueryHandler.means
    g.H.Responses.ResponseList.listed (request.Close (target_of c.args.target)) _ _ _ no_answer _ c.ask.result
    _ (ap (gathered_as no_answer) (sym c.in-Err.is)) (c.ask.ensures.asks _ c.close.ensures)
