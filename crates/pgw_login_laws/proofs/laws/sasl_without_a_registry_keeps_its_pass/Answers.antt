use Rattle.pgw_login_sasl.specs.Methods.{offered_methods}
use Rattle.pgw_login_sasl.specs.Scram.{ByScram}
use Rattle.pgw_login_sasl.specs.Sasl.{ByOauth}
use Rattle.pgw_login_laws.proofs.UnregisteredLaws.{sasl_unties}
use Rattle.pgw_login_laws.proofs.laws.sasl_without_a_registry_keeps_its_pass.Goals as goal

pub returns : goal.returns
returns g c =
    let handler = c.args.handler.now in
    sasl_unties (offered_methods handler.scram handler.oauth) (ByScram g.A.ScramSource.replies handler.scram)
    (ByOauth handler.oauth (λ o. (g.dyn-1.0.entry o.validator.vtable).1.validates o.validator.value))
    (g.P.ServerParameterProvider.provides handler.parameter_provider)
