use Rattle.std.proofs.Common.{Ok, Err, false, refl, ap, sym, ◌∙◌}
use Rattle.std.specs.Option.{option_copied}
use Rattle.pgw_session.specs.declared.types.Request.TheVariants as request
use Rattle.pgw_client_calls.specs.ExtendedSteps.{gathered_as}
use Rattle.pgw_client_calls.specs.Lent.{lent_prepare}
use Rattle.pgw_client_calls.proofs.LentLaws.{asks_as}
use Rattle.pgw_client_calls.proofs.extended.ExtendedQueryClient.prepare.Goals as goal

pub returns-in-Err-clause-asks : goal.returns-in-Err-clause-asks
returns-in-Err-clause-asks g c =
    asks_as g.L.Link.foretells g.L.Link.left g.L.Link.tape g.L.Link.faults g.H.ExtendedQueryHandler.means
    g.H.Responses.ResponseList.listed
    (request.Prepare (option_copied c.args.name) c.args.query.now c.args.param_types.now) _ _ _
    (lent_prepare (option_copied c.args.name)) _ (Err c.starve.result) _ refl
    (c.starve.ensures.asks _)

pub returns-in-Ok-ask-clause-asks : goal.returns-in-Ok-ask-clause-asks
returns-in-Ok-ask-clause-asks g c =
    asks_as g.L.Link.foretells g.L.Link.left g.L.Link.tape g.L.Link.faults g.H.ExtendedQueryHandler.means
    g.H.Responses.ResponseList.listed
    (request.Prepare (option_copied c.args.name) c.args.query.now c.args.param_types.now) _ _ _
    (lent_prepare (option_copied c.args.name)) _ c.ask.result _
    (ap (λ name. Ok (lent_prepare name c.in-Ok-ask.gathered false)) c.in-Ok.ensures
    ∙ ap (gathered_as (lent_prepare (option_copied c.args.name))) (sym c.in-Ok-ask.is))
    (c.ask.ensures.asks _ c.prepare.ensures)

pub returns-in-Err-ask-clause-asks : goal.returns-in-Err-ask-clause-asks
returns-in-Err-ask-clause-asks g c =
    asks_as g.L.Link.foretells g.L.Link.left g.L.Link.tape g.L.Link.faults g.H.ExtendedQueryHandler.means
    g.H.Responses.ResponseList.listed
    (request.Prepare (option_copied c.args.name) c.args.query.now c.args.param_types.now) _ _ _
    (lent_prepare (option_copied c.args.name)) _ c.ask.result _
    (ap (gathered_as (lent_prepare (option_copied c.args.name))) (sym c.in-Err-ask.is))
    (c.ask.ensures.asks _ c.prepare.ensures)
