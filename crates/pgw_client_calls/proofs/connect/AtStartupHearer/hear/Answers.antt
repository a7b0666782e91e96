use Rattle.pgw_handlers.specs.Startup.{HeardAtStartup}
use Rattle.pgw_client_calls.specs.Connecting.{goes_on_never}
use Rattle.pgw_client_calls.proofs.CallLaws.{heard_further}
use Rattle.pgw_client_calls.proofs.connect.AtStartupHearer.hear.Goals as goal

pub returns-clause-heard : goal.returns-clause-heard
returns-clause-heard g c =
    rw (← c.self.view_is)
    (heard_further (HeardAtStartup g.S.StartupHandler.exchanges g.S.StartupHandler.means) goes_on_never _ _ _
    _ _ _ _ c.hear_at_startup.result c.hear_at_startup.ensures.heard)
