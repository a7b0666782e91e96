use Rattle.std.proofs.Common.{◌≡◌, ◌⊎◌, inl, inr, ℕ, ℤ, List, refl, ap}
use Rattle.std.proofs.lemmas.Bool.{false≢true}
use Rattle.std.proofs.lemmas.Bool.Decides.{Decides-int_eq, Decides-eqb}
use Rattle.std.specs.Cmp.Lexicographic.{bytes_decides}
use Rattle.pgw_types.specs.declared.context.DecodeContext.{DecodeContext}
use Rattle.pgw_types.specs.declared.context.ProtocolVersion.TheVariants.{PROTOCOL3_0, PROTOCOL3_2, PROTOCOL3_9999}
use Rattle.pgw_types.specs.declared.error.ScramMessageFault.{ScramMessageFault}
use Rattle.pgw_types.specs.declared.error.ScramMessageFault.TheVariants as scram
use Rattle.pgw_types.specs.declared.error.OauthFault.{OauthFault}
use Rattle.pgw_types.specs.declared.error.OauthFault.TheVariants as oauth
use Rattle.pgw_types.specs.declared.error.OauthRefusal.{OauthRefusal}
use Rattle.pgw_types.specs.declared.error.OauthRefusal.TheVariants as refusal
use Rattle.pgw_types.specs.declared.error.ApiFault.{ApiFault}
use Rattle.pgw_types.specs.declared.error.PgWireError.{PgWireError}
use Rattle.pgw_types.specs.declared.error.PgWireError.TheVariants as error
use Rattle.pgw_types.specs.contracts.error.PgWireError.{as_values}
use Rattle.pgw_types.specs.declared.error_info.ErrorInfo.{ErrorInfo}
use Rattle.pgw_types.specs.declared.scram_error.ScramFault.TheVariants as login
use Rattle.pgw_wire.specs.declared.framing.Framing.TheVariants as framing
use Rattle.pgw_wire.specs.declared.secret_key.SecretKey.TheVariants.{I32, Bytes}
use Rattle.pgw_wire.proofs.EqualLaws.{bool_exact, option_exact, both_exact, made_exact, one_exact, none_exact, field_exact, pair_exact, triple_exact, sum_exact}
use Rattle.pgw_wire.proofs.ParamLaws.{same_params}
use Rattle.pgw_wire.proofs.equality.equality_is_exact.Goals as goal

pub returns-clause-text : goal.returns-clause-text
returns-clause-text c = bytes_decides

pub returns-clause-octets : goal.returns-clause-octets
returns-clause-octets c = bytes_decides

pub returns-clause-params : goal.returns-clause-params
returns-clause-params c x y = same_params x y _ refl

pub returns-clause-secret_key : goal.returns-clause-secret_key
returns-clause-secret_key c (I32 x) (I32 y) =
    (λ e. ap (λ z. I32 z) ((Decides-int_eq x y).0 e), λ e. (Decides-int_eq x y).1 cc)
returns-clause-secret_key c (Bytes x) (Bytes y) =
    (λ e. ap (λ z. Bytes z) ((bytes_decides x y).0 e), λ e. (bytes_decides x y).1 cc)
returns-clause-secret_key c x y = (λ e. absurd cc, λ e. absurd cc)

pub returns-clause-protocol_version : goal.returns-clause-protocol_version
returns-clause-protocol_version c PROTOCOL3_0 PROTOCOL3_0 = (λ e. refl, λ e. refl)
returns-clause-protocol_version c PROTOCOL3_2 PROTOCOL3_2 = (λ e. refl, λ e. refl)
returns-clause-protocol_version c PROTOCOL3_9999 PROTOCOL3_9999 = (λ e. refl, λ e. refl)
returns-clause-protocol_version c x y = (λ e. absurd cc, λ e. absurd cc)

pub returns-clause-decode_context : goal.returns-clause-decode_context
returns-clause-decode_context c = made_exact {Y = DecodeContext}
    (λ x. (
      x.protocol_version,
      (
        x.awaiting_frontend_ssl,
        (x.awaiting_frontend_startup, (x.awaiting_backend_ssl_response, x.awaiting_backend_gss_response)),
      ),
    ))
    (λ p. record {
      protocol_version = p.0;
      awaiting_frontend_ssl = p.1.0;
      awaiting_frontend_startup = p.1.1.0;
      awaiting_backend_ssl_response = p.1.1.1.0;
      awaiting_backend_gss_response = p.1.1.1.1;
    }) (λ x. refl) _
    (both_exact _ _ (returns-clause-protocol_version c)
    (both_exact _ _ bool_exact (both_exact _ _ bool_exact (both_exact _ _ bool_exact bool_exact))))

pub returns-clause-error_info : goal.returns-clause-error_info
returns-clause-error_info c = made_exact {Y = ErrorInfo}
    (λ x. (
      x.severity,
      (
        x.code,
        (
          x.message,
          (
            x.detail,
            (
              x.hint,
              (
                x.position,
                (
                  x.internal_position,
                  (
                    x.internal_query,
                    (
                      x.where_context,
                      (
                        x.file_name,
                        (
                          x.line,
                          (
                            x.routine,
                            (
                              x.severity_nonlocalized,
                              (
                                x.schema,
                                (x.table, (x.column, (x.datatype, x.constraint))),
                              ),
                            ),
                          ),
                        ),
                      ),
                    ),
                  ),
                ),
              ),
            ),
          ),
        ),
      ),
    ))
    (λ p. record {
      severity = p.0;
      code = p.1.0;
      message = p.1.1.0;
      detail = p.1.1.1.0;
      hint = p.1.1.1.1.0;
      position = p.1.1.1.1.1.0;
      internal_position = p.1.1.1.1.1.1.0;
      internal_query = p.1.1.1.1.1.1.1.0;
      where_context = p.1.1.1.1.1.1.1.1.0;
      file_name = p.1.1.1.1.1.1.1.1.1.0;
      line = p.1.1.1.1.1.1.1.1.1.1.0;
      routine = p.1.1.1.1.1.1.1.1.1.1.1.0;
      severity_nonlocalized = p.1.1.1.1.1.1.1.1.1.1.1.1.0;
      schema = p.1.1.1.1.1.1.1.1.1.1.1.1.1.0;
      table = p.1.1.1.1.1.1.1.1.1.1.1.1.1.1.0;
      column = p.1.1.1.1.1.1.1.1.1.1.1.1.1.1.1.0;
      datatype = p.1.1.1.1.1.1.1.1.1.1.1.1.1.1.1.1.0;
      constraint = p.1.1.1.1.1.1.1.1.1.1.1.1.1.1.1.1.1;
    }) (λ x. refl) _
    (both_exact _ _ bytes_decides
    (both_exact _ _ bytes_decides
    (both_exact _ _ bytes_decides
    (both_exact _ _ (option_exact _ bytes_decides)
    (both_exact _ _ (option_exact _ bytes_decides)
    (both_exact _ _ (option_exact _ bytes_decides)
    (both_exact _ _ (option_exact _ bytes_decides)
    (both_exact _ _ (option_exact _ bytes_decides)
    (both_exact _ _ (option_exact _ bytes_decides)
    (both_exact _ _ (option_exact _ bytes_decides)
    (both_exact _ _ (option_exact _ Decides-eqb)
    (both_exact _ _ (option_exact _ bytes_decides)
    (both_exact _ _ (option_exact _ bytes_decides)
    (both_exact _ _ (option_exact _ bytes_decides)
    (both_exact _ _ (option_exact _ bytes_decides)
    (both_exact _ _ (option_exact _ bytes_decides)
    (both_exact _ _ (option_exact _ bytes_decides)
    (option_exact _ bytes_decides))))))))))))))))))

pub returns-clause-scram_message_fault : goal.returns-clause-scram_message_fault
returns-clause-scram_message_fault c scram.NotUtf8 scram.NotUtf8 = (λ e. refl, λ e. refl)
returns-clause-scram_message_fault c scram.Grammar scram.Grammar = (λ e. refl, λ e. refl)
returns-clause-scram_message_fault c scram.Count scram.Count = (λ e. refl, λ e. refl)
returns-clause-scram_message_fault c scram.ChannelBinding scram.ChannelBinding = (λ e. refl, λ e. refl)
returns-clause-scram_message_fault c scram.Nonce scram.Nonce = (λ e. refl, λ e. refl)
returns-clause-scram_message_fault c scram.Empty scram.Empty = (λ e. refl, λ e. refl)
returns-clause-scram_message_fault c scram.Mechanism scram.Mechanism = (λ e. refl, λ e. refl)
returns-clause-scram_message_fault c x y = (λ e. absurd (false≢true e), λ e. absurd cc)

pub returns-clause-scram_fault : goal.returns-clause-scram_fault
returns-clause-scram_fault c login.PasswordNotUtf8 login.PasswordNotUtf8 = (λ e. refl, λ e. refl)
returns-clause-scram_fault c login.NonceMismatch login.NonceMismatch = (λ e. refl, λ e. refl)
returns-clause-scram_fault c login.SaltNotBase64 login.SaltNotBase64 = (λ e. refl, λ e. refl)
returns-clause-scram_fault c (login.ServerError x) (login.ServerError y) =
    (λ e. ap (λ z. login.ServerError z) ((bytes_decides x y).0 e), λ e. (bytes_decides x y).1 cc)
returns-clause-scram_fault c login.SignatureMismatch login.SignatureMismatch = (λ e. refl, λ e. refl)
returns-clause-scram_fault c x y = (λ e. absurd (false≢true e), λ e. absurd cc)

pub returns-clause-oauth_fault : goal.returns-clause-oauth_fault
returns-clause-oauth_fault c oauth.Flag oauth.Flag = (λ e. refl, λ e. refl)
returns-clause-oauth_fault c oauth.ChannelBinding oauth.ChannelBinding = (λ e. refl, λ e. refl)
returns-clause-oauth_fault c oauth.AuthzId oauth.AuthzId = (λ e. refl, λ e. refl)
returns-clause-oauth_fault c oauth.Separator oauth.Separator = (λ e. refl, λ e. refl)
returns-clause-oauth_fault c oauth.Pair oauth.Pair = (λ e. refl, λ e. refl)
returns-clause-oauth_fault c oauth.Key oauth.Key = (λ e. refl, λ e. refl)
returns-clause-oauth_fault c oauth.Value oauth.Value = (λ e. refl, λ e. refl)
returns-clause-oauth_fault c oauth.TwiceAuth oauth.TwiceAuth = (λ e. refl, λ e. refl)
returns-clause-oauth_fault c oauth.NotOneByte oauth.NotOneByte = (λ e. refl, λ e. refl)
returns-clause-oauth_fault c x y = (λ e. absurd (false≢true e), λ e. absurd cc)

pub returns-clause-oauth_refusal : goal.returns-clause-oauth_refusal
returns-clause-oauth_refusal c refusal.Malformed refusal.Malformed = (λ e. refl, λ e. refl)
returns-clause-oauth_refusal c refusal.Refused refusal.Refused = (λ e. refl, λ e. refl)
returns-clause-oauth_refusal c refusal.Ended refusal.Ended = (λ e. refl, λ e. refl)
returns-clause-oauth_refusal c x y = (λ e. absurd (false≢true e), λ e. absurd cc)

pub returns-clause-api_fault : goal.returns-clause-api_fault
returns-clause-api_fault c =
    made_exact {Y = ApiFault} (λ x. x.text) (λ t. record { text = t }) (λ x. refl) _ bytes_decides

pub returns-clause-out_of_memory : goal.returns-clause-out_of_memory
returns-clause-out_of_memory c = one_exact (λ x y. refl)

pub returns-clause-framing : goal.returns-clause-framing
returns-clause-framing c (framing.Typed x) (framing.Typed y) =
    (λ e. ap (λ z. framing.Typed z) ((Decides-eqb x y).0 e), λ e. (Decides-eqb x y).1 cc)
returns-clause-framing c framing.Untyped framing.Untyped = (λ e. refl, λ e. refl)
returns-clause-framing c (framing.Opening x) (framing.Opening y) =
    (λ e. ap (λ z. framing.Opening z) ((Decides-eqb x y).0 e), λ e. (Decides-eqb x y).1 cc)
returns-clause-framing c framing.Code framing.Code = (λ e. refl, λ e. refl)
returns-clause-framing c framing.OneByte framing.OneByte = (λ e. refl, λ e. refl)
returns-clause-framing c x y = (λ e. absurd (false≢true e), λ e. absurd cc)

-- an error as one of its kinds
abbrev Kinds : Type 0
Kinds =
    (ℕ × (ℕ × Unit {0}))
    ⊎ (Unit {0} ⊎ (Unit {0} ⊎ ((ℕ × Unit {0}) ⊎
    ((ℕ × (ℕ × Unit {0})) ⊎ ((ℕ × (ℕ × (ℕ × Unit {0})))
    ⊎ ((ℕ × Unit {0}) ⊎ ((ℕ × Unit {0})
    ⊎ (Unit {0} ⊎ (Unit {0} ⊎ (Unit {0}
    ⊎ ((ℤ × Unit {0}) ⊎ ((List ℕ × Unit {0})
    ⊎ ((ScramMessageFault × Unit {0})
    ⊎ (Unit {0} ⊎ ((OauthFault × Unit {0})
    ⊎ ((OauthRefusal × Unit {0})
    ⊎ ((List ℕ × Unit {0}) ⊎
    (Unit {0} ⊎ (Unit {0} ⊎ (Unit {0}
    ⊎ (Unit {0} ⊎ (Unit {0} ⊎
    (Unit {0} ⊎ (Unit {0} ⊎ ((List ℕ × Unit {0})
    ⊎ (Unit {0} ⊎ ((List ℕ × Unit {0})
    ⊎ (Unit {0} ⊎ ((List ℕ × Unit {0})
    ⊎ ((List ℕ × Unit {0}) ⊎
    (Unit {0} ⊎ ((ApiFault × Unit {0})
    ⊎ ((ℕ × Unit {0}) ⊎ ((List ℕ × Unit {0})
    ⊎ ((List ℕ × Unit {0}) ⊎
    ((List ℕ × Unit {0}) ⊎ (Unit {0}
    ⊎ ((ErrorInfo × Unit {0})
    ⊎ (⊥)))))))))))))))))))))))))))))))))))))))

from_kind : Kinds → PgWireError
from_kind (inl x) = error.UnsupportedProtocolVersion x.0 x.1.0
from_kind (inr (inl x)) = error.InvalidCancelRequest
from_kind (inr (inr (inl x))) = error.InvalidSecretKey
from_kind (inr (inr (inr (inl x)))) = error.InvalidMessageType x.0
from_kind (inr (inr (inr (inr (inl x))))) = error.MessageTooLarge x.0 x.1.0
from_kind (inr (inr (inr (inr (inr (inl x)))))) = error.InvalidElementCount x.0 x.1.0 x.1.1.0
from_kind (inr (inr (inr (inr (inr (inr (inl x))))))) = error.InvalidTargetType x.0
from_kind (inr (inr (inr (inr (inr (inr (inr (inl x)))))))) = error.InvalidTransactionStatus x.0
from_kind (inr (inr (inr (inr (inr (inr (inr (inr (inl x))))))))) = error.InvalidSSLRequestMessage
from_kind (inr (inr (inr (inr (inr (inr (inr (inr (inr (inl x)))))))))) = error.InvalidGssEncRequestMessage
from_kind (inr (inr (inr (inr (inr (inr (inr (inr (inr (inr (inl x))))))))))) = error.InvalidStartupMessage
from_kind (inr (inr (inr (inr (inr (inr (inr (inr (inr (inr (inr (inl x)))))))))))) =
    error.InvalidAuthenticationMessageCode x.0
from_kind (inr (inr (inr (inr (inr (inr (inr (inr (inr (inr (inr (inr (inl x))))))))))))) =
    error.UnsupportedSASLAuthMethod x.0
from_kind (inr (inr (inr (inr (inr (inr (inr (inr (inr (inr (inr (inr (inr (inl x)))))))))))))) =
    error.InvalidScramMessage x.0
from_kind (inr (inr (inr (inr (inr (inr (inr (inr (inr (inr (inr (inr (inr (inr (inl x))))))))))))))) =
    error.NotReadyForQuery
from_kind (inr (inr (inr (inr (inr (inr (inr (inr (inr (inr (inr (inr (inr (inr (inr (inl x)))))))))))))))) =
    error.InvalidOauthMessage x.0
from_kind (inr (inr (inr (inr (inr (inr (inr (inr (inr (inr (inr (inr (inr (inr (inr (inr (inl x))))))))))))))))) =
    error.OAuthAuthenticationFailed x.0
from_kind (inr (inr (inr (inr (inr (inr (inr (inr
    (inr (inr (inr (inr (inr (inr (inr (inr (inr (inl x)))))))))))))))))) =
    error.OAuthValidationError x.0
from_kind (inr (inr (inr (inr (inr (inr (inr (inr
    (inr (inr (inr (inr (inr (inr (inr (inr (inr (inr (inl x))))))))))))))))))) =
    error.InvalidMessageBody
from_kind (inr (inr (inr (inr (inr (inr (inr (inr
    (inr (inr (inr (inr (inr (inr (inr (inr (inr (inr (inr (inl x)))))))))))))))))))) =
    error.FailedToCoercePasswordMessage
from_kind (inr (inr (inr (inr (inr (inr (inr (inr
    (inr (inr (inr (inr (inr (inr (inr (inr (inr (inr (inr (inr (inl x))))))))))))))))))))) =
    error.InvalidSASLState
from_kind (inr (inr (inr (inr (inr (inr (inr (inr
    (inr (inr (inr (inr (inr (inr (inr (inr (inr (inr (inr (inr (inr (inl x)))))))))))))))))))))) =
    error.SaltRequired
from_kind (inr (inr (inr (inr (inr (inr (inr (inr
    (inr (inr (inr (inr (inr (inr (inr (inr (inr (inr (inr (inr (inr (inr (inl x))))))))))))))))))))))) =
    error.PidsExhausted
from_kind (inr (inr (inr (inr (inr (inr (inr (inr
    (inr (inr (inr (inr (inr (inr (inr (inr (inr (inr (inr (inr (inr (inr (inr (inl x)))))))))))))))))))))))) =
    error.RegistryExhausted
from_kind (inr (inr (inr (inr (inr (inr (inr (inr
    (inr (inr (inr (inr (inr (inr (inr (inr (inr (inr (inr (inr (inr (inr (inr (inr (inl x)))))))))))))))))))))))))
    = error.IoError
from_kind (inr (inr (inr (inr (inr (inr (inr (inr
    (inr (inr (inr (inr (inr (inr (inr (inr (inr
    (inr (inr (inr (inr (inr (inr (inr (inr (inl x)))))))))))))))))))))))))) =
    error.InvalidPassword x.0
from_kind (inr (inr (inr (inr (inr (inr (inr (inr
    (inr (inr (inr (inr (inr (inr (inr (inr (inr
    (inr (inr (inr (inr (inr (inr (inr (inr (inr (inl x))))))))))))))))))))))))))) =
    error.UserNameRequired
from_kind (inr (inr (inr (inr (inr (inr (inr (inr
    (inr (inr (inr (inr (inr (inr (inr (inr (inr
    (inr (inr (inr (inr (inr (inr (inr (inr (inr (inr (inl x)))))))))))))))))))))))))))) =
    error.OauthAuthzIdError x.0
from_kind (inr (inr (inr (inr (inr (inr (inr (inr
    (inr (inr (inr (inr (inr (inr (inr (inr (inr
    (inr (inr (inr (inr (inr (inr (inr (inr (inr (inr (inr (inl x))))))))))))))))))))))))))))) = error.OutOfMemory
from_kind (inr (inr (inr (inr (inr (inr (inr (inr
    (inr (inr (inr (inr (inr (inr (inr (inr (inr
    (inr (inr (inr (inr (inr (inr (inr (inr (inr (inr (inr (inr (inl x)))))))))))))))))))))))))))))) =
    error.PortalNotFound x.0
from_kind (inr (inr (inr (inr (inr (inr (inr (inr
    (inr (inr (inr (inr (inr (inr (inr (inr (inr
    (inr (inr (inr (inr (inr (inr (inr (inr (inr (inr (inr (inr (inr (inl x))))))))))))))))))))))))))))))) =
    error.StatementNotFound x.0
from_kind (inr (inr (inr (inr (inr (inr (inr (inr
    (inr (inr (inr (inr (inr (inr (inr (inr (inr
    (inr (inr (inr (inr (inr (inr (inr (inr (inr (inr (inr (inr (inr (inr (inl x)))))))))))))))))))))))))))))))) =
    error.PortalNotStarted
from_kind (inr (inr (inr (inr (inr (inr (inr (inr
    (inr (inr (inr (inr (inr (inr (inr (inr (inr
    (inr (inr (inr (inr (inr (inr (inr (inr
    (inr (inr (inr (inr (inr (inr (inr (inl x))))))))))))))))))))))))))))))))) =
    error.ApiError x.0
from_kind (inr (inr (inr (inr (inr (inr (inr (inr
    (inr (inr (inr (inr (inr (inr (inr (inr (inr
    (inr (inr (inr (inr (inr (inr (inr (inr
    (inr (inr (inr (inr (inr (inr (inr (inr (inl x)))))))))))))))))))))))))))))))))) =
    error.ParameterIndexOutOfBound x.0
from_kind (inr (inr (inr (inr (inr (inr (inr (inr
    (inr (inr (inr (inr (inr (inr (inr (inr (inr
    (inr (inr (inr (inr (inr (inr (inr (inr
    (inr (inr (inr (inr (inr (inr (inr (inr (inr (inl x))))))))))))))))))))))))))))))))))) =
    error.InvalidRustTypeForParameter x.0
from_kind (inr (inr (inr (inr (inr (inr (inr (inr
    (inr (inr (inr (inr (inr (inr (inr (inr (inr
    (inr (inr (inr (inr (inr (inr (inr (inr
    (inr (inr (inr (inr (inr (inr (inr (inr (inr (inr (inl x)))))))))))))))))))))))))))))))))))) =
    error.InvalidOptionValue x.0
from_kind (inr (inr (inr (inr (inr (inr (inr (inr
    (inr (inr (inr (inr (inr (inr (inr (inr (inr
    (inr (inr (inr (inr (inr (inr (inr (inr
    (inr (inr (inr (inr (inr (inr (inr (inr (inr (inr (inr (inl x))))))))))))))))))))))))))))))))))))) =
    error.FailedToParseParameter x.0
from_kind (inr (inr (inr (inr (inr (inr (inr (inr
    (inr (inr (inr (inr (inr (inr (inr (inr (inr
    (inr (inr (inr (inr (inr (inr (inr (inr
    (inr (inr (inr (inr (inr (inr (inr (inr (inr (inr (inr (inr (inl x)))))))))))))))))))))))))))))))))))))) =
    error.QueryCanceled
from_kind (inr (inr (inr (inr (inr (inr (inr (inr
    (inr (inr (inr (inr (inr (inr (inr (inr (inr
    (inr (inr (inr (inr (inr (inr (inr (inr
    (inr (inr (inr (inr (inr (inr (inr
    (inr (inr (inr (inr (inr (inr (inl x))))))))))))))))))))))))))))))))))))))) =
    error.UserError x.0
from_kind (inr (inr (inr (inr (inr (inr (inr (inr
    (inr (inr (inr (inr (inr (inr (inr (inr (inr
    (inr (inr (inr (inr (inr (inr (inr (inr
    (inr (inr (inr (inr (inr (inr (inr
    (inr (inr (inr (inr (inr (inr (inr x))))))))))))))))))))))))))))))))))))))) = absurd x

from_kind-as_values : (e : PgWireError) → from_kind (as_values e) ≡ e
unfolding from_kind
from_kind-as_values (error.UnsupportedProtocolVersion x y) = refl
from_kind-as_values error.InvalidCancelRequest = refl
from_kind-as_values error.InvalidSecretKey = refl
from_kind-as_values (error.InvalidMessageType x) = refl
from_kind-as_values (error.MessageTooLarge x y) = refl
from_kind-as_values (error.InvalidElementCount x y z) = refl
from_kind-as_values (error.InvalidTargetType x) = refl
from_kind-as_values (error.InvalidTransactionStatus x) = refl
from_kind-as_values error.InvalidSSLRequestMessage = refl
from_kind-as_values error.InvalidGssEncRequestMessage = refl
from_kind-as_values error.InvalidStartupMessage = refl
from_kind-as_values (error.InvalidAuthenticationMessageCode x) = refl
from_kind-as_values (error.UnsupportedSASLAuthMethod x) = refl
from_kind-as_values (error.InvalidScramMessage x) = refl
from_kind-as_values error.NotReadyForQuery = refl
from_kind-as_values (error.InvalidOauthMessage x) = refl
from_kind-as_values (error.OAuthAuthenticationFailed x) = refl
from_kind-as_values (error.OAuthValidationError x) = refl
from_kind-as_values error.InvalidMessageBody = refl
from_kind-as_values error.FailedToCoercePasswordMessage = refl
from_kind-as_values error.InvalidSASLState = refl
from_kind-as_values error.SaltRequired = refl
from_kind-as_values error.PidsExhausted = refl
from_kind-as_values error.RegistryExhausted = refl
from_kind-as_values error.IoError = refl
from_kind-as_values (error.InvalidPassword x) = refl
from_kind-as_values error.UserNameRequired = refl
from_kind-as_values (error.OauthAuthzIdError x) = refl
from_kind-as_values error.OutOfMemory = refl
from_kind-as_values (error.PortalNotFound x) = refl
from_kind-as_values (error.StatementNotFound x) = refl
from_kind-as_values error.PortalNotStarted = refl
from_kind-as_values (error.ApiError x) = refl
from_kind-as_values (error.ParameterIndexOutOfBound x) = refl
from_kind-as_values (error.InvalidRustTypeForParameter x) = refl
from_kind-as_values (error.InvalidOptionValue x) = refl
from_kind-as_values (error.FailedToParseParameter x) = refl
from_kind-as_values error.QueryCanceled = refl
from_kind-as_values (error.UserError x) = refl

pub returns-clause-pgwire_error : goal.returns-clause-pgwire_error
returns-clause-pgwire_error c =
    made_exact as_values from_kind from_kind-as_values _
    (sum_exact _ _ (pair_exact _ _ Decides-eqb Decides-eqb)
    (sum_exact _ _ (one_exact (λ x y. refl))
    (sum_exact _ _ (one_exact (λ x y. refl))
    (sum_exact _ _ (field_exact _ Decides-eqb)
    (sum_exact _ _ (pair_exact _ _ Decides-eqb Decides-eqb)
    (sum_exact _ _ (triple_exact _ _ _ Decides-eqb Decides-eqb Decides-eqb)
    (sum_exact _ _ (field_exact _ Decides-eqb)
    (sum_exact _ _ (field_exact _ Decides-eqb)
    (sum_exact _ _ (one_exact (λ x y. refl))
    (sum_exact _ _ (one_exact (λ x y. refl))
    (sum_exact _ _ (one_exact (λ x y. refl))
    (sum_exact _ _ (field_exact _ Decides-int_eq)
    (sum_exact _ _ (field_exact _ bytes_decides)
    (sum_exact _ _ (field_exact _ (returns-clause-scram_message_fault c))
    (sum_exact _ _ (one_exact (λ x y. refl))
    (sum_exact _ _ (field_exact _ (returns-clause-oauth_fault c))
    (sum_exact _ _ (field_exact _ (returns-clause-oauth_refusal c))
    (sum_exact _ _ (field_exact _ bytes_decides)
    (sum_exact _ _ (one_exact (λ x y. refl))
    (sum_exact _ _ (one_exact (λ x y. refl))
    (sum_exact _ _ (one_exact (λ x y. refl))
    (sum_exact _ _ (one_exact (λ x y. refl))
    (sum_exact _ _ (one_exact (λ x y. refl))
    (sum_exact _ _ (one_exact (λ x y. refl))
    (sum_exact _ _ (one_exact (λ x y. refl))
    (sum_exact _ _ (field_exact _ bytes_decides)
    (sum_exact _ _ (one_exact (λ x y. refl))
    (sum_exact _ _ (field_exact _ bytes_decides)
    (sum_exact _ _ (one_exact (λ x y. refl))
    (sum_exact _ _ (field_exact _ bytes_decides)
    (sum_exact _ _ (field_exact _ bytes_decides)
    (sum_exact _ _ (one_exact (λ x y. refl))
    (sum_exact _ _ (field_exact _ (returns-clause-api_fault c))
    (sum_exact _ _ (field_exact _ Decides-eqb)
    (sum_exact _ _ (field_exact _ bytes_decides)
    (sum_exact _ _ (field_exact _ bytes_decides)
    (sum_exact _ _ (field_exact _ bytes_decides)
    (sum_exact _ _ (one_exact (λ x y. refl))
    (sum_exact _ _ (field_exact _ (returns-clause-error_info c))
    (none_exact _))))))))))))))))))))))))))))))))))))))))
