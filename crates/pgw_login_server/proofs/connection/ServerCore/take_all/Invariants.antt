use Rattle.std.proofs.Common.{◌≡◌, length}
use Rattle.pgw_login_server.specs.Stands.{stage_of}
use Rattle.pgw_login_server.specs.Steps.{Goes}
use Rattle.pgw_login_server.proofs.connection.ServerCore.take_all.Given as goal

abbrev pub invariant-messages : goal.invariant-messages
invariant-messages g l = record {
  fits : g.H.StartupHandler.fits l.self.handler l.self.login;
  handler : l.self.handler ≡ l.fn.self.handler;
  over : l.self.over ≡ l.fn.self.over;
  bound : l.self.bound ≡ l.fn.self.bound;
  goes : Goes (g.H.StartupHandler.means l.fn.self.handler) (stage_of l.fn.self) l.fn.self.inbox.items
      (stage_of l.self) l.self.inbox.items l.fn.out.buffer.items l.out.buffer.items;
}

abbrev pub decreases-messages : goal.decreases-messages
decreases-messages g l = length l.self.inbox.items
