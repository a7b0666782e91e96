use Rattle.std.proofs.Common.{rules, Ok, ap, sym, ◌∙◌}
use Rattle.std.specs.Option.{option_copied}
use Rattle.pgw_session.specs.declared.types.Request.TheVariants as request
use Rattle.pgw_client_calls.specs.ExtendedSteps.{gathered_as}
use Rattle.pgw_client_calls.specs.Lent.{lent_result}
use Rattle.pgw_client_calls.proofs.LentLaws.{asks_as}
use Rattle.pgw_client_calls.proofs.extended.ExtendedQueryClient.execute.Goals as goal

pub returns-in-Ok-clause-asks : goal.returns-in-Ok-clause-asks
returns-in-Ok-clause-asks g c =
    asks_as g.L.Link.foretells g.L.Link.left g.L.Link.tape g.L.Link.faults g.H.ExtendedQueryHandler.means
    g.H.Responses.ResponseList.listed (request.Execute (option_copied c.args.portal) c.args.max_rows) _ _ _
    lent_result _ c.ask.result _ (ap Ok c.executed.ensures
    ∙ ap (gathered_as lent_result) (sym c.in-Ok.is)) (c.ask.ensures.asks _ (search rules))

pub returns-in-Err-clause-asks : goal.returns-in-Err-clause-asks
returns-in-Err-clause-asks g c =
    asks_as g.L.Link.foretells g.L.Link.left g.L.Link.tape g.L.Link.faults g.H.ExtendedQueryHandler.means
    g.H.Responses.ResponseList.listed (request.Execute (option_copied c.args.portal) c.args.max_rows) _ _ _
    lent_result _ c.ask.result _ (ap (gathered_as lent_result) (sym c.in-Err.is))
    (c.ask.ensures.asks _ (search rules))
