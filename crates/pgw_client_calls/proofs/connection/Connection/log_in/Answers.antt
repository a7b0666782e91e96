use Rattle.std.proofs.Common.{inl, inr, refl}
use Rattle.pgw_handlers.specs.Startup.{startup, HeardAtStartup}
use Rattle.pgw_client_calls.proofs.ConnectLaws.{logged_in, not_taken_in}
use Rattle.pgw_client_calls.proofs.connection.Connection.log_in.Goals as goal

pub returns-in-Err-clause-logs_in : goal.returns-in-Err-clause-logs_in
returns-in-Err-clause-logs_in g c = inl (_, _, c.in-Err.ensures.asked)

pub returns-in-Ok-take_in-clause-logs_in : goal.returns-in-Ok-take_in-clause-logs_in
returns-in-Ok-take_in-clause-logs_in g c =
    logged_in (λ before after answer. g.S.StartupHandler.means before startup after answer)
    (HeardAtStartup g.S.StartupHandler.exchanges g.S.StartupHandler.means) c.args.handler _ _ _ _ _
    c.in-Ok.information _ c.in-Ok.ensures.asked c.in-Ok.ensures.usable c.in-Ok-take_in.ensures.ok

pub returns-in-Err-take_in-clause-logs_in : goal.returns-in-Err-take_in-clause-logs_in
returns-in-Err-take_in-clause-logs_in g c =
    inr (
      refl,
      c.in-Ok.information,
      _,
      not_taken_in
          (λ before after answer. g.S.StartupHandler.means before startup after answer)
          (HeardAtStartup g.S.StartupHandler.exchanges g.S.StartupHandler.means) c.args.handler _ _ _ _
          c.in-Ok.information _ c.in-Ok.ensures.asked c.in-Ok.ensures.usable,
    )
