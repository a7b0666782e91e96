use Rattle.std.proofs.Common.{◌≡◌, ◌⊎◌, inl, inr, ℕ, List, refl, ap}
use Rattle.std.proofs.lemmas.Bool.Decides.{Decides-eqb, Decides-int_eq}
use Rattle.std.specs.Cmp.Lexicographic.{pointwise_decides, bytes_decides}
use Rattle.pgw_startup.specs.declared.authentication.Authentication.TheVariants as auth
use Rattle.pgw_startup.specs.declared.authentication.Authentication.{Authentication}
use Rattle.pgw_startup.specs.contracts.authentication.Authentication.{as_values}
use Rattle.pgw_startup.specs.declared.parameter_status.ParameterStatus.{ParameterStatus}
use Rattle.pgw_startup.specs.declared.negotiate.NegotiateProtocolVersion.{NegotiateProtocolVersion}
use Rattle.pgw_startup.specs.declared.password.Password.{Password}
use Rattle.pgw_startup.specs.declared.sasl.SASLInitialResponse.{SASLInitialResponse}
use Rattle.pgw_startup.specs.declared.sasl.SASLResponse.{SASLResponse}
use Rattle.pgw_startup.specs.declared.password.PasswordMessageFamily.TheVariants as family
use Rattle.pgw_startup.specs.declared.backend_key_data.BackendKeyData.{BackendKeyData}
use Rattle.pgw_startup.specs.declared.startup.Startup.{Startup}
use Rattle.pgw_wire.proofs.EqualLaws.{option_exact, both_exact, made_exact, one_exact, none_exact, sum_exact, field_exact}
use Rattle.pgw_startup.proofs.equality.equality_is_exact.Goals as goal

-- an authentication request as one of its kinds
from_kind : Unit {0}
    ⊎ (Unit {0} ⊎ (Unit {0} ⊎ ((List ℕ × Unit {0})
    ⊎ ((List (List ℕ) × Unit {0}) ⊎ ((List ℕ × Unit {0}) ⊎ ((List ℕ × Unit {0}) ⊎ ⊥))))))
    → Authentication
from_kind (inl x) = auth.Ok
from_kind (inr (inl x)) = auth.CleartextPassword
from_kind (inr (inr (inl x))) = auth.KerberosV5
from_kind (inr (inr (inr (inl x)))) = auth.MD5Password x.0
from_kind (inr (inr (inr (inr (inl x))))) = auth.SASL x.0
from_kind (inr (inr (inr (inr (inr (inl x)))))) = auth.SASLContinue x.0
from_kind (inr (inr (inr (inr (inr (inr (inl x))))))) = auth.SASLFinal x.0
from_kind (inr (inr (inr (inr (inr (inr (inr x))))))) = absurd x

from_kind-as_values : (a : Authentication) → from_kind (as_values a) ≡ a
unfolding from_kind
from_kind-as_values auth.Ok = refl
from_kind-as_values auth.CleartextPassword = refl
from_kind-as_values auth.KerberosV5 = refl
from_kind-as_values (auth.MD5Password x) = refl
from_kind-as_values (auth.SASL x) = refl
from_kind-as_values (auth.SASLContinue x) = refl
from_kind-as_values (auth.SASLFinal x) = refl

pub returns-clause-authentication : goal.returns-clause-authentication
returns-clause-authentication c =
    made_exact as_values from_kind from_kind-as_values _
    (sum_exact _ _ (one_exact (λ x y. refl))
    (sum_exact _ _ (one_exact (λ x y. refl))
    (sum_exact _ _ (one_exact (λ x y. refl))
    (sum_exact _ _ (field_exact _ bytes_decides)
    (sum_exact _ _ (field_exact _ (pointwise_decides bytes_decides))
    (sum_exact _ _ (field_exact _ bytes_decides)
    (sum_exact _ _ (field_exact _ bytes_decides) (none_exact (λ x y. absurd x)))))))))

pub returns-clause-parameter_status : goal.returns-clause-parameter_status
returns-clause-parameter_status c =
    made_exact {Y = ParameterStatus} (λ x. (x.name, x.value)) (λ p. record { name = p.0; value = p.1 })
    (λ x. refl) _ (both_exact _ _ bytes_decides bytes_decides)

pub returns-clause-negotiate_protocol_version : goal.returns-clause-negotiate_protocol_version
returns-clause-negotiate_protocol_version c =
    made_exact {Y = NegotiateProtocolVersion} (λ x. (x.newest_minor_protocol, x.unsupported_options))
    (λ p. record { newest_minor_protocol = p.0; unsupported_options = p.1 }) (λ x. refl) _
    (both_exact _ _ Decides-int_eq (pointwise_decides bytes_decides))

pub returns-clause-password : goal.returns-clause-password
returns-clause-password c =
    made_exact {Y = Password} (λ x. x.password) (λ p. record { password = p }) (λ x. refl) _ bytes_decides

pub returns-clause-sasl_initial_response : goal.returns-clause-sasl_initial_response
returns-clause-sasl_initial_response c =
    made_exact {Y = SASLInitialResponse} (λ x. (x.auth_method, x.payload))
    (λ p. record { auth_method = p.0; payload = p.1 }) (λ x. refl) _
    (both_exact _ _ bytes_decides (option_exact _ bytes_decides))

pub returns-clause-sasl_response : goal.returns-clause-sasl_response
returns-clause-sasl_response c =
    made_exact {Y = SASLResponse} (λ x. x.payload) (λ p. record { payload = p }) (λ x. refl) _ bytes_decides

pub returns-clause-password_message_family : goal.returns-clause-password_message_family
returns-clause-password_message_family c (family.Raw x) (family.Raw y) =
    (λ e. ap (λ z. family.Raw z) ((bytes_decides x y).0 e), λ e. (bytes_decides x y).1 cc)
returns-clause-password_message_family c (family.Password x) (family.Password y) = (
  λ e. ap (λ z. family.Password z) ((returns-clause-password c x y).0 e),
  λ e.
      (returns-clause-password c x y).1 cc,
)
returns-clause-password_message_family c (family.SASLInitialResponse x) (family.SASLInitialResponse y) = (
  λ e. ap (λ z. family.SASLInitialResponse z) ((returns-clause-sasl_initial_response c x y).0 e),
  λ e.
      (returns-clause-sasl_initial_response c x y).1 cc,
)
returns-clause-password_message_family c (family.SASLResponse x) (family.SASLResponse y) = (
  λ e. ap (λ z. family.SASLResponse z) ((returns-clause-sasl_response c x y).0 e),
  λ e.
      (returns-clause-sasl_response c x y).1 cc,
)
returns-clause-password_message_family c x y = (λ e. absurd cc, λ e. absurd cc)

pub returns-clause-backend_key_data : goal.returns-clause-backend_key_data
returns-clause-backend_key_data c =
    made_exact {Y = BackendKeyData} (λ x. (x.pid, x.secret_key)) (λ p. record { pid = p.0; secret_key = p.1 })
    (λ x. refl) _ (both_exact _ _ Decides-int_eq c.equality_is_exact.ensures.secret_key)

pub returns-clause-startup : goal.returns-clause-startup
returns-clause-startup c =
    made_exact {Y = Startup} (λ x. (x.protocol_number_major, (x.protocol_number_minor, x.parameters)))
    (λ p. record { protocol_number_major = p.0; protocol_number_minor = p.1.0; parameters = p.1.1 })
    (λ x. refl) _
    (both_exact _ _ Decides-eqb (both_exact _ _ Decides-eqb c.equality_is_exact.ensures.params))
