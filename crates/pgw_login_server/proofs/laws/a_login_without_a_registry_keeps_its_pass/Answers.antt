use Rattle.pgw_login_server.proofs.UnregisteredLaws.{password_unties, noop_unties}
use Rattle.pgw_login_server.proofs.laws.a_login_without_a_registry_keeps_its_pass.Goals as goal

pub returns : goal.returns
returns g c = record {
  password =
      λ method provider. password_unties (g.V.PasswordMethod.opens method) (g.V.PasswordMethod.checks method)
      (g.P.ServerParameterProvider.provides provider);
  noop = noop_unties;
}
