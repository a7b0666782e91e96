use Rattle.std.proofs.Common.{ap, sym}
use Rattle.pgw_session.specs.declared.types.Request.TheVariants as request
use Rattle.pgw_client_calls.specs.ExtendedSteps.{gathered_as}
use Rattle.pgw_client_calls.specs.Lent.{all_responses}
use Rattle.pgw_client_calls.proofs.LentLaws.{asks_as}
use Rattle.pgw_client_calls.proofs.extended.ExtendedQueryClient.query.Goals as goal

pub returns-in-Ok-clause-asks : goal.returns-in-Ok-clause-asks
returns-in-Ok-clause-asks g c =
    asks_as g.L.Link.foretells g.L.Link.left g.L.Link.tape g.L.Link.faults g.H.ExtendedQueryHandler.means
    g.H.Responses.ResponseList.listed (request.Query c.args.sql.now c.args.param_types.now c.args.params) _ _
    _ all_responses _ c.ask.result _ (ap (gathered_as all_responses) (sym c.in-Ok.is))
    (c.ask.ensures.asks _ c.query.ensures)

pub returns-in-Err-clause-asks : goal.returns-in-Err-clause-asks
returns-in-Err-clause-asks g c =
    asks_as g.L.Link.foretells g.L.Link.left g.L.Link.tape g.L.Link.faults g.H.ExtendedQueryHandler.means
    g.H.Responses.ResponseList.listed (request.Query c.args.sql.now c.args.param_types.now c.args.params) _ _
    _ all_responses _ c.ask.result _ (ap (gathered_as all_responses) (sym c.in-Err.is))
    (c.ask.ensures.asks _ c.query.ensures)
