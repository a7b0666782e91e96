use Rattle.pgw_login_sasl.specs.Scram.{ByScram}
use Rattle.pgw_login_sasl.specs.Sasl.{ByOauth}
use Rattle.pgw_login_laws.proofs.LastingLaws.{sasl_keeps}
use Rattle.pgw_login_laws.proofs.laws.sasl_keeps_a_finished_login.Goals as goal

pub returns : goal.returns
returns g c =
    let handler = c.args.handler.now in
    sasl_keeps _ (ByScram g.A.ScramSource.replies handler.scram)
    (ByOauth handler.oauth (λ o. (g.dyn-1.0.entry o.validator.vtable).1.validates o.validator.value))
    (g.P.ServerParameterProvider.provides handler.parameter_provider)
    (g.M.Registers.registers handler.registry)
