use Rattle.pgw_handlers.specs.Startup.{startup, HeardAtStartup}
use Rattle.pgw_client_calls.specs.Connecting.{goes_on_never}
use Rattle.pgw_client_calls.specs.Desk.{sight_of}
use Rattle.pgw_client_calls.proofs.CallLaws.{call_opened, call_closed}
use Rattle.pgw_client_calls.proofs.ForetoldLaws.{foretold_on}
use Rattle.pgw_client_calls.proofs.connection.Connection.start.Goals as goal

pub returns-in-Ok-clause-asked : goal.returns-in-Ok-clause-asked
returns-in-Ok-clause-asked g c =
    let o = c.startup-opened in
    call_opened (λ before after answer. g.S.StartupHandler.means before startup after answer)
    (HeardAtStartup g.S.StartupHandler.exchanges g.S.StartupHandler.means) goes_on_never c.args.handler
    o.new.self _ (sight_of c.clear.new.self) (sight_of o.new.client) _ _
    (c.args.self.now.flushed c.requires) o.result
    (c.clear.ensures.fresh c.requires) o.ensures.means _ _ _ _ c.in-Ok.ensures.opens c.begin.ensures.client
    c.talk.ensures.talked

pub returns-in-Err-clause-asked : goal.returns-in-Err-clause-asked
returns-in-Err-clause-asked g c =
    let o = c.startup-opened in
    call_closed (λ before after answer. g.S.StartupHandler.means before startup after answer)
    (HeardAtStartup g.S.StartupHandler.exchanges g.S.StartupHandler.means) goes_on_never c.args.handler
    o.new.self _ (sight_of c.clear.new.self) (sight_of o.new.client) _ _
    (c.args.self.now.flushed c.requires) o.result
    (c.clear.ensures.fresh c.requires) o.ensures.means c.in-Err.error _ _ o.ensures.leaves.cause.failed
    c.in-Err.ensures.opens c.begin.ensures.client

pub returns-in-Ok-clause-foretold : goal.returns-in-Ok-clause-foretold
returns-in-Ok-clause-foretold g c =
    λ t. foretold_on _ _ _ _ _ _ (g.met.L.Link.knows t c.begin.new.self.link) (c.begin.ensures.foretold t)
    (c.talk.ensures.foretold t)
