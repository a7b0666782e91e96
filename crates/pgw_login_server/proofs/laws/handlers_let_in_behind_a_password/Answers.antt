use Rattle.pgw_login_server.proofs.PasswordEntry.{cleartext_lets_in, md5_lets_in}
use Rattle.pgw_login_server.proofs.laws.handlers_let_in_behind_a_password.Goals as goal

pub returns : goal.returns
returns g c = record {
  cleartext =
      λ source provider registry. cleartext_lets_in (g.A.AuthSource.answers source)
      (g.P.ServerParameterProvider.provides provider) (g.M.Registers.registers registry);
  md5 = λ source provider registry. md5_lets_in (g.A.AuthSource.answers source)
      (g.P.ServerParameterProvider.provides provider) (g.M.Registers.registers registry);
}
