use Rattle.std.proofs.Common.{◌++◌, refl}
use Rattle.pgw_login_server.specs.Stands.{stage_of}
use Rattle.pgw_login_server.proofs.ServerLaws.{comes_broken}
use Rattle.pgw_login_server.proofs.connection.ServerCore.receive.Goals as goal

pub returns-in-Err-clause-comes : goal.returns-in-Err-clause-comes
returns-in-Err-clause-comes g c =
    comes_broken (g.H.StartupHandler.means c.args.self.now.handler) (stage_of c.args.self.now)
    (stage_of c.args.self.now) (c.args.self.now.inbox.items ++ c.args.piece.now)
    c.extend_from_slice.new.self.items c.args.out.now.items refl

pub returns-in-Ok-clause-comes : goal.returns-in-Ok-clause-comes
returns-in-Ok-clause-comes g c = rw c.in-Ok.ensures.ok at c.serve.ensures.comes
