use Rattle.std.proofs.Common.{inl}
use Rattle.pgw_machine.specs.Course.{On, Ends}
use Rattle.pgw_login_server.specs.Server.{Refused, server_ending}
use Rattle.pgw_login_server.specs.Stands.{stage_of}
use Rattle.pgw_login_server.proofs.ServerLaws.{handled}
use Rattle.pgw_login_server.proofs.connection.ServerCore.step.Goals as goal

pub returns-in-Ok-hear-clause-stepped : goal.returns-in-Ok-hear-clause-stepped
returns-in-Ok-hear-clause-stepped g c =
    let h = c.in-Ok-hear.ensures.heard in (
      h.0,
      h.1,
      handled (g.H.StartupHandler.means c.args.self.now.handler) c.args.message
          (stage_of c.args.self.now) (On (stage_of c.hear.new.self) h.0) c.in_default.not-SslNegotiation
          c.in_default.not-CancelRequest h.2,
    )

pub returns-in-Err-hear-clause-stepped : goal.returns-in-Err-hear-clause-stepped
returns-in-Err-hear-clause-stepped g c =
    let h = c.in-Err-hear.ensures.heard in (
      h.0,
      h.1,
      inl (handled (g.H.StartupHandler.means c.args.self.now.handler) c.args.message
          (stage_of c.args.self.now) (Ends (server_ending (Refused c.in-Err-hear.e) (stage_of c.hear.new.self)) h.0)
          c.in_default.not-SslNegotiation c.in_default.not-CancelRequest h.2),
    )
