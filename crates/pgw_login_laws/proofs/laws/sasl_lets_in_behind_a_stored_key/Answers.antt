use Rattle.pgw_login_sasl.specs.Methods.{offered_methods}
use Rattle.pgw_login_sasl.specs.Stored.{by_secrets}
use Rattle.pgw_login_laws.specs.Entry.{GivesStored, TakesStored}
use Rattle.pgw_login_laws.proofs.StoredEnd.{waits, stored_apart, stored_end}
use Rattle.pgw_login_laws.proofs.EntryLaws.{sasl_lets_in}
use Rattle.pgw_login_laws.proofs.laws.sasl_lets_in_behind_a_stored_key.Goals as goal

pub returns : goal.returns
returns g c =
    let handler = c.args.handler.now in
    let S = g.S.SecretSource.secrets in
    sasl_lets_in (by_secrets S) (λ scram. GivesStored (S scram.auth_db.source) scram.authenticator) TakesStored
    waits
    stored_apart (λ scram. stored_end (S scram.auth_db.source) scram.authenticator) handler.scram
    (λ o. (g.dyn-1.0.entry o.validator.vtable).1.validates o.validator.value) handler.oauth
    (offered_methods handler.scram handler.oauth)
    (g.P.ServerParameterProvider.provides handler.parameter_provider)
    (g.M.Registers.registers handler.registry)
