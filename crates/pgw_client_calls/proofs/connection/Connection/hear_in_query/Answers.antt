use Rattle.std.proofs.Common.{ap, refl, ◌∙◌}
use Rattle.pgw_handlers.specs.Simple.{HeardInQuery}
use Rattle.pgw_client_calls.specs.Talk.{fresh, passes}
use Rattle.pgw_client_calls.specs.Desk.{client_of, sight_of}
use Rattle.pgw_client_calls.proofs.CallLaws.{heard_nothing, heard_so}
use Rattle.pgw_client_calls.proofs.ForetoldLaws.{foretold_on}
use Rattle.pgw_client_calls.proofs.connection.Connection.hear_in_query.Goals as goal

pub returns-in-Err-clause-heard : goal.returns-in-Err-clause-heard
returns-in-Err-clause-heard g c =
    heard_nothing (HeardInQuery g.H.SimpleQueryHandler.means) passes c.args.handler.now _ _ _ _ c.in-Err.error
    (ap client_of c.next_message.ensures.desk) (c.args.self.now.flushed c.requires) c.in-Err.ensures.came

pub returns-clause-heard : goal.returns-clause-heard
returns-clause-heard g c =
    let answer = c.on_message-answer in
    let usable = ap (λ d. d.broken) c.next_message.ensures.desk ∙ c.requires in
    let cleared = c.clear.ensures.fresh usable ∙ ap (λ d. fresh (client_of d)) c.next_message.ensures.desk in
    heard_so (HeardInQuery g.H.SimpleQueryHandler.means) passes refl c.args.handler.now answer.new.self _
    (sight_of c.clear.new.self) (sight_of answer.new.client) _ _ _ c.in-Ok.message c.is_ready-closing.result
    answer.result c.follow.result _ _
    (c.args.self.now.flushed c.requires) c.in-Ok.ensures.came cleared c.is_ready-closing.ensures
    answer.ensures.means answer.ensures.leaves.cause.failed answer.ensures.ready c.follow.ensures.follows

pub returns-clause-foretold : goal.returns-clause-foretold
returns-clause-foretold g c =
    λ t. foretold_on _ _ _ _ _ _ (g.met.L.Link.knows t c.next_message.new.self.link)
    (c.next_message.ensures.foretold t) (c.follow.ensures.foretold t)
