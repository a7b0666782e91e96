use Rattle.pgw_login_sasl.specs.Methods.{offered_methods}
use Rattle.pgw_login_sasl.specs.Scram.{by_passwords}
use Rattle.pgw_login_laws.specs.Entry.{GivesSalted, TakesSalted}
use Rattle.pgw_login_laws.proofs.SaltedEnd.{waits, salted_apart, salted_end}
use Rattle.pgw_login_laws.proofs.EntryLaws.{sasl_lets_in}
use Rattle.pgw_login_laws.proofs.laws.sasl_lets_in_behind_a_proof.Goals as goal

pub returns : goal.returns
returns g c =
    let handler = c.args.handler.now in
    let A = g.A.AuthSource.answers in
    sasl_lets_in (by_passwords A) (λ scram. GivesSalted (A scram.auth_db) scram.authenticator) TakesSalted waits
    salted_apart (λ scram. salted_end (A scram.auth_db) scram.authenticator) handler.scram
    (λ o. (g.dyn-1.0.entry o.validator.vtable).1.validates o.validator.value) handler.oauth
    (offered_methods handler.scram handler.oauth)
    (g.P.ServerParameterProvider.provides handler.parameter_provider)
    (g.M.Registers.registers handler.registry)
