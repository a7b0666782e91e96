use Rattle.pgw_login.specs.DefaultClients.{login_client}
use Rattle.pgw_login_server.specs.Stands.{stage_of}
use Rattle.pgw_login_server.proofs.ServerLaws.{hears, refuses}
use Rattle.pgw_login_server.proofs.connection.ServerCore.hear.Goals as goal

pub returns-in-Ok-clause-heard : goal.returns-in-Ok-clause-heard
returns-in-Ok-clause-heard g c =
    hears (g.H.StartupHandler.means c.args.self.now.handler) c.args.message (stage_of c.args.self.now)
    (login_client c.on_startup.new.client) c.on_startup.new.state c.args.out.now.buffer.items
    c.on_startup.new.out.buffer.items c.in-Ok.ensures.means

pub returns-in-Err-clause-heard : goal.returns-in-Err-clause-heard
returns-in-Err-clause-heard g c =
    refuses (g.H.StartupHandler.means c.args.self.now.handler) c.args.message (stage_of c.args.self.now)
    (login_client c.on_startup.new.client) c.on_startup.new.state c.args.out.now.buffer.items
    c.on_startup.new.out.buffer.items c.in-Err.e c.in-Err.ensures.means
