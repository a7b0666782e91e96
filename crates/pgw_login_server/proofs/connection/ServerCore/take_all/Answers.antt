use Rattle.std.proofs.Common.{Ok, Err}
use Rattle.pgw_login_server.specs.Stands.{stage_of}
use Rattle.pgw_login_server.proofs.ServerLaws.{comes_then}
use Rattle.pgw_login_server.proofs.connection.ServerCore.take_all.Goals as goal

pub returns-in-Ok-Some-clause-comes : goal.returns-in-Ok-Some-clause-comes
returns-in-Ok-Some-clause-comes g c =
    let last = rw (c.in-Ok-Some.field-0-is, c.messages.invariant.handler) at c.in-Ok-Some.ensures.advanced in
    comes_then (g.H.StartupHandler.means c.args.self.now.handler) (stage_of c.args.self.now)
    (stage_of c.messages.self) (stage_of c.advance.new.self) c.args.self.now.inbox.items
    c.messages.self.inbox.items c.advance.new.self.inbox.items
    c.args.out.now.buffer.items c.messages.out.buffer.items c.advance.new.out.buffer.items (Ok c.in-Ok-Some.phase)
    c.messages.invariant.goes last

pub returns-in-Err-clause-comes : goal.returns-in-Err-clause-comes
returns-in-Err-clause-comes g c =
    let last = rw c.messages.invariant.handler at c.in-Err.ensures.advanced in
    comes_then (g.H.StartupHandler.means c.args.self.now.handler) (stage_of c.args.self.now)
    (stage_of c.messages.self) (stage_of c.advance.new.self) c.args.self.now.inbox.items
    c.messages.self.inbox.items c.advance.new.self.inbox.items
    c.args.out.now.buffer.items c.messages.out.buffer.items c.advance.new.out.buffer.items (Err c.in-Err.e)
    c.messages.invariant.goes last
