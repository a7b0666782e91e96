use Rattle.std.proofs.Common.{refl}
use Rattle.std.proofs.lemmas.Bool.Decides.{Decides-int_eq}
use Rattle.pgw_control.specs.declared.cancel.CancelRequest.{CancelRequest}
use Rattle.pgw_wire.proofs.EqualLaws.{both_exact, made_exact, one_exact}
use Rattle.pgw_control.proofs.equality.equality_is_exact.Goals as goal

pub returns-clause-ssl_request : goal.returns-clause-ssl_request
returns-clause-ssl_request c = one_exact (λ x y. refl)

pub returns-clause-gss_enc_request : goal.returns-clause-gss_enc_request
returns-clause-gss_enc_request c = one_exact (λ x y. refl)

pub returns-clause-cancel_request : goal.returns-clause-cancel_request
returns-clause-cancel_request c =
    made_exact {Y = CancelRequest} (λ x. (x.pid, x.secret_key)) (λ p. record { pid = p.0; secret_key = p.1 })
    (λ x. refl) _ (both_exact _ _ Decides-int_eq c.equality_is_exact.ensures.secret_key)
