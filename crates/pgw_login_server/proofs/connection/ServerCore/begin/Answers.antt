use Rattle.std.proofs.Common.{false, refl}
use Rattle.pgw_login.specs.DefaultClients.{login_client}
use Rattle.pgw_login_server.specs.declared.connection.ServerCore.{ServerCore}
use Rattle.pgw_login_server.proofs.ServerLaws.{begins_here}
use Rattle.pgw_login_server.proofs.connection.ServerCore.begin.Goals as goal

pub returns-clause-stands : goal.returns-clause-stands
returns-clause-stands g c =
    let core : ServerCore g.row.H.Denot =
    record {
      handler = c.args.handler;
      client = c.args.client;
      login = c.args.state;
      inbox = c.new.result;
      started = false;
      over = false;
      bound = c.args.bound;
    } in
    begins_here (g.H.StartupHandler.means c.args.handler) core c.args.bound (login_client c.args.client)
    c.args.state refl refl c.new.ensures.items
