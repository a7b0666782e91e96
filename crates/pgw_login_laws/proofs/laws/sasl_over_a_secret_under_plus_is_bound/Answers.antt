use Rattle.pgw_login_laws.proofs.BoundLaws.{is_bound_over}
use Rattle.pgw_login_laws.proofs.laws.sasl_over_a_secret_under_plus_is_bound.Goals as goal

pub returns : goal.returns
returns g c server begin earlier t run named =
    is_bound_over (g.S.SecretSource.secrets c.args.source.now) server begin earlier t run named
