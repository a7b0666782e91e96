use Rattle.pgw_handlers.specs.Simple.{simple_query, HeardInQuery}
use Rattle.pgw_client_calls.specs.Talk.{passes}
use Rattle.pgw_client_calls.specs.Desk.{sight_of}
use Rattle.pgw_client_calls.proofs.CallLaws.{call_opened, call_closed}
use Rattle.pgw_client_calls.proofs.ForetoldLaws.{foretold_on}
use Rattle.pgw_client_calls.proofs.connection.Connection.simple_query.Goals as goal

pub returns-in-Ok-clause-asked : goal.returns-in-Ok-clause-asked
returns-in-Ok-clause-asked g c = λ usable.
    let o = c.simple_query-opened in
    call_opened (λ before after answer. g.H.SimpleQueryHandler.means before (simple_query c.args.query.now) after
    answer) (HeardInQuery g.H.SimpleQueryHandler.means) passes c.args.handler o.new.self _
    (sight_of c.clear.new.self) (sight_of o.new.client) _ _ (c.args.self.now.flushed usable) o.result
    (c.clear.ensures.fresh usable) o.ensures.means _ _ _ _ c.in-Ok.ensures.opens c.begin.ensures.client
    c.talk.ensures.talked

pub returns-in-Err-clause-asked : goal.returns-in-Err-clause-asked
returns-in-Err-clause-asked g c = λ usable.
    let o = c.simple_query-opened in
    call_closed (λ before after answer. g.H.SimpleQueryHandler.means before (simple_query c.args.query.now) after
    answer) (HeardInQuery g.H.SimpleQueryHandler.means) passes c.args.handler o.new.self _
    (sight_of c.clear.new.self) (sight_of o.new.client) _ _ (c.args.self.now.flushed usable) o.result
    (c.clear.ensures.fresh usable) o.ensures.means c.in-Err.error _ _ o.ensures.leaves.cause.failed
    c.in-Err.ensures.opens c.begin.ensures.client

pub returns-in-Ok-clause-foretold : goal.returns-in-Ok-clause-foretold
returns-in-Ok-clause-foretold g c =
    λ t. foretold_on _ _ _ _ _ _ (g.met.L.Link.knows t c.begin.new.self.link) (c.begin.ensures.foretold t)
    (c.talk.ensures.foretold t)
