use Rattle.pgw_login.specs.Acts.{LoginStays}
use Rattle.pgw_login_server.proofs.LastingLaws.{password_keeps, noop_keeps}
use Rattle.pgw_login_server.proofs.laws.handlers_keep_a_finished_login.Goals as goal

pub returns : goal.returns
returns g c = record {
  password =
      λ method provider registry. password_keeps (g.V.PasswordMethod.opens method)
      (g.V.PasswordMethod.checks method) (g.P.ServerParameterProvider.provides provider)
      (g.M.Registers.registers registry);
  noop = λ registry. noop_keeps (λ m. LoginStays) (g.M.Registers.registers registry);
}
