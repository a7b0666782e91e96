use Rattle.std.proofs.Common.{◌≡◌, ◌⊎◌, inl, inr, refl}
use Rattle.pgw_backend.specs.declared.backend.PgWireBackendMessage.{PgWireBackendMessage}
use Rattle.pgw_backend.specs.declared.backend.PgWireBackendMessage.TheVariants as backend
use Rattle.pgw_backend.specs.contracts.backend.PgWireBackendMessage.{as_values}
use Rattle.pgw_startup.specs.declared.response.EncryptionResponse.{EncryptionResponse}
use Rattle.pgw_startup.specs.declared.authentication.Authentication.{Authentication}
use Rattle.pgw_startup.specs.declared.parameter_status.ParameterStatus.{ParameterStatus}
use Rattle.pgw_startup.specs.declared.backend_key_data.BackendKeyData.{BackendKeyData}
use Rattle.pgw_startup.specs.declared.negotiate.NegotiateProtocolVersion.{NegotiateProtocolVersion}
use Rattle.pgw_query.specs.declared.response.CommandComplete.{CommandComplete}
use Rattle.pgw_query.specs.declared.response.ReadyForQuery.{ReadyForQuery}
use Rattle.pgw_query.specs.Rows.{ErrorResponse, NoticeResponse}
use Rattle.pgw_query.specs.declared.notification.NotificationResponse.{NotificationResponse}
use Rattle.pgw_query.specs.declared.description.ParameterDescription.{ParameterDescription}
use Rattle.pgw_query.specs.declared.data.RowDescription.{RowDescription}
use Rattle.pgw_query.specs.declared.data.DataRow.{DataRow}
use Rattle.pgw_copy.specs.declared.data.CopyData.{CopyData}
use Rattle.pgw_copy.specs.declared.data.CopyFail.{CopyFail}
use Rattle.pgw_copy.specs.declared.response.CopyResponse.{CopyResponse}
use Rattle.pgw_wire.proofs.EqualLaws.{made_exact, none_exact, sum_exact, field_exact}
use Rattle.pgw_wire.specs.declared.empty.EmptyRequest.{EmptyRequest}
use Rattle.pgw_wire.specs.declared.empty.EmptyResponse.{EmptyResponse}
use Rattle.pgw_backend.proofs.equality.equality_is_exact.Goals as goal

-- a message as one of its kinds
abbrev Kinds : Type 0
Kinds =
    (EncryptionResponse 83 × Unit {0})
    ⊎ ((EncryptionResponse 71 × Unit {0}) ⊎
    ((Authentication × Unit {0}) ⊎
    ((ParameterStatus × Unit {0}) ⊎
    ((BackendKeyData × Unit {0}) ⊎
    ((NegotiateProtocolVersion × Unit {0}) ⊎
    ((EmptyResponse 49 × Unit {0}) ⊎
    ((EmptyResponse 50 × Unit {0}) ⊎
    ((EmptyResponse 51 × Unit {0}) ⊎
    ((EmptyResponse 115 × Unit {0}) ⊎
    ((EmptyResponse 73 × Unit {0}) ⊎
    ((EmptyResponse 110 × Unit {0}) ⊎
    ((CommandComplete × Unit {0}) ⊎
    ((ReadyForQuery × Unit {0}) ⊎
    ((ErrorResponse × Unit {0}) ⊎
    ((NoticeResponse × Unit {0}) ⊎
    ((NotificationResponse × Unit {0}) ⊎
    ((ParameterDescription × Unit {0}) ⊎
    ((RowDescription × Unit {0}) ⊎
    ((DataRow × Unit {0}) ⊎
    ((CopyData × Unit {0}) ⊎
    ((EmptyRequest 99 × Unit {0}) ⊎
    ((CopyFail × Unit {0})
    ⊎ ((CopyResponse 71 × Unit {0}) ⊎
    ((CopyResponse 72 × Unit {0}) ⊎ ((CopyResponse 87 × Unit {0}) ⊎ ⊥)))))))))))))))))))))))))

from_kind : Kinds → PgWireBackendMessage
from_kind (inl x) = backend.SslResponse x.0
from_kind (inr (inl x)) = backend.GssEncResponse x.0
from_kind (inr (inr (inl x))) = backend.Authentication x.0
from_kind (inr (inr (inr (inl x)))) = backend.ParameterStatus x.0
from_kind (inr (inr (inr (inr (inl x))))) = backend.BackendKeyData x.0
from_kind (inr (inr (inr (inr (inr (inl x)))))) = backend.NegotiateProtocolVersion x.0
from_kind (inr (inr (inr (inr (inr (inr (inl x))))))) = backend.ParseComplete x.0
from_kind (inr (inr (inr (inr (inr (inr (inr (inl x)))))))) = backend.BindComplete x.0
from_kind (inr (inr (inr (inr (inr (inr (inr (inr (inl x))))))))) = backend.CloseComplete x.0
from_kind (inr (inr (inr (inr (inr (inr (inr (inr (inr (inl x)))))))))) = backend.PortalSuspended x.0
from_kind (inr (inr (inr (inr (inr (inr (inr (inr (inr (inr (inl x))))))))))) = backend.EmptyQueryResponse x.0
from_kind (inr (inr (inr (inr (inr (inr (inr (inr (inr (inr (inr (inl x)))))))))))) = backend.NoData x.0
from_kind (inr (inr (inr (inr (inr (inr (inr (inr (inr (inr (inr (inr (inl x))))))))))))) =
    backend.CommandComplete x.0
from_kind (inr (inr (inr (inr (inr (inr (inr (inr (inr (inr (inr (inr (inr (inl x)))))))))))))) =
    backend.ReadyForQuery x.0
from_kind (inr (inr (inr (inr (inr (inr (inr (inr (inr (inr (inr (inr (inr (inr (inl x))))))))))))))) =
    backend.ErrorResponse x.0
from_kind (inr (inr (inr (inr (inr (inr (inr (inr (inr (inr (inr (inr (inr (inr (inr (inl x)))))))))))))))) =
    backend.NoticeResponse x.0
from_kind (inr (inr (inr (inr (inr (inr (inr (inr (inr (inr (inr (inr (inr (inr (inr (inr (inl x))))))))))))))))) =
    backend.NotificationResponse x.0
from_kind (inr (inr (inr (inr (inr (inr (inr (inr
    (inr (inr (inr (inr (inr (inr (inr (inr (inr (inl x)))))))))))))))))) =
    backend.ParameterDescription x.0
from_kind (inr (inr (inr (inr (inr (inr (inr (inr
    (inr (inr (inr (inr (inr (inr (inr (inr (inr (inr (inl x))))))))))))))))))) =
    backend.RowDescription x.0
from_kind (inr (inr (inr (inr (inr (inr (inr (inr
    (inr (inr (inr (inr (inr (inr (inr (inr (inr (inr (inr (inl x)))))))))))))))))))) =
    backend.DataRow x.0
from_kind (inr (inr (inr (inr (inr (inr (inr (inr
    (inr (inr (inr (inr (inr (inr (inr (inr (inr (inr (inr (inr (inl x))))))))))))))))))))) =
    backend.CopyData x.0
from_kind (inr (inr (inr (inr (inr (inr (inr (inr
    (inr (inr (inr (inr (inr (inr (inr (inr (inr (inr (inr (inr (inr (inl x)))))))))))))))))))))) =
    backend.CopyDone x.0
from_kind (inr (inr (inr (inr (inr (inr (inr (inr
    (inr (inr (inr (inr (inr (inr (inr (inr (inr (inr (inr (inr (inr (inr (inl x))))))))))))))))))))))) =
    backend.CopyFail x.0
from_kind (inr (inr (inr (inr (inr (inr (inr (inr
    (inr (inr (inr (inr (inr (inr (inr (inr (inr (inr (inr (inr (inr (inr (inr (inl x)))))))))))))))))))))))) =
    backend.CopyInResponse x.0
from_kind (inr (inr (inr (inr (inr (inr (inr (inr
    (inr (inr (inr (inr (inr (inr (inr (inr (inr (inr (inr (inr (inr (inr (inr (inr (inl x))))))))))))))))))))))))) =
    backend.CopyOutResponse x.0
from_kind (inr (inr (inr (inr (inr (inr (inr (inr
    (inr (inr (inr (inr (inr (inr (inr (inr (inr
    (inr (inr (inr (inr (inr (inr (inr (inr (inl x)))))))))))))))))))))))))) =
    backend.CopyBothResponse x.0
from_kind (inr (inr (inr (inr (inr (inr (inr (inr
    (inr (inr (inr (inr (inr (inr (inr (inr (inr
    (inr (inr (inr (inr (inr (inr (inr (inr (inr x)))))))))))))))))))))))))) = absurd x

from_kind-as_values : (m : PgWireBackendMessage) → from_kind (as_values m) ≡ m
unfolding from_kind
from_kind-as_values (backend.SslResponse m) = refl
from_kind-as_values (backend.GssEncResponse m) = refl
from_kind-as_values (backend.Authentication m) = refl
from_kind-as_values (backend.ParameterStatus m) = refl
from_kind-as_values (backend.BackendKeyData m) = refl
from_kind-as_values (backend.NegotiateProtocolVersion m) = refl
from_kind-as_values (backend.ParseComplete m) = refl
from_kind-as_values (backend.BindComplete m) = refl
from_kind-as_values (backend.CloseComplete m) = refl
from_kind-as_values (backend.PortalSuspended m) = refl
from_kind-as_values (backend.EmptyQueryResponse m) = refl
from_kind-as_values (backend.NoData m) = refl
from_kind-as_values (backend.CommandComplete m) = refl
from_kind-as_values (backend.ReadyForQuery m) = refl
from_kind-as_values (backend.ErrorResponse m) = refl
from_kind-as_values (backend.NoticeResponse m) = refl
from_kind-as_values (backend.NotificationResponse m) = refl
from_kind-as_values (backend.ParameterDescription m) = refl
from_kind-as_values (backend.RowDescription m) = refl
from_kind-as_values (backend.DataRow m) = refl
from_kind-as_values (backend.CopyData m) = refl
from_kind-as_values (backend.CopyDone m) = refl
from_kind-as_values (backend.CopyFail m) = refl
from_kind-as_values (backend.CopyInResponse m) = refl
from_kind-as_values (backend.CopyOutResponse m) = refl
from_kind-as_values (backend.CopyBothResponse m) = refl

pub returns : goal.returns
returns c =
    made_exact as_values from_kind from_kind-as_values _
    (sum_exact _ _ (field_exact _ (c.encryption_equality_is_exact.ensures))
    (sum_exact _ _ (field_exact _ (c.encryption_equality_is_exact-2.ensures))
    (sum_exact _ _ (field_exact _ (c.equality_is_exact.ensures.authentication))
    (sum_exact _ _ (field_exact _ (c.equality_is_exact.ensures.parameter_status))
    (sum_exact _ _ (field_exact _ (c.equality_is_exact.ensures.backend_key_data))
    (sum_exact _ _ (field_exact _ (c.equality_is_exact.ensures.negotiate_protocol_version))
    (sum_exact _ _ (field_exact _ (c.empty_equality_is_exact.ensures.response))
    (sum_exact _ _ (field_exact _ (c.empty_equality_is_exact-2.ensures.response))
    (sum_exact _ _ (field_exact _ (c.empty_equality_is_exact-3.ensures.response))
    (sum_exact _ _ (field_exact _ (c.empty_equality_is_exact-4.ensures.response))
    (sum_exact _ _ (field_exact _ (c.empty_equality_is_exact-5.ensures.response))
    (sum_exact _ _ (field_exact _ (c.empty_equality_is_exact-6.ensures.response))
    (sum_exact _ _ (field_exact _ (c.equality_is_exact-2.ensures.command_complete))
    (sum_exact _ _ (field_exact _ (c.equality_is_exact-2.ensures.ready_for_query))
    (sum_exact _ _ (field_exact _ (c.info_equality_is_exact.ensures))
    (sum_exact _ _ (field_exact _ (c.info_equality_is_exact-2.ensures))
    (sum_exact _ _ (field_exact _ (c.equality_is_exact-2.ensures.notification_response))
    (sum_exact _ _ (field_exact _ (c.equality_is_exact-2.ensures.parameter_description))
    (sum_exact _ _ (field_exact _ (c.equality_is_exact-2.ensures.row_description))
    (sum_exact _ _ (field_exact _ (c.equality_is_exact-2.ensures.data_row))
    (sum_exact _ _ (field_exact _ (c.equality_is_exact-3.ensures.copy_data))
    (sum_exact _ _ (field_exact _ (c.empty_equality_is_exact-7.ensures.request))
    (sum_exact _ _ (field_exact _ (c.equality_is_exact-3.ensures.copy_fail))
    (sum_exact _ _ (field_exact _
    (c.response_equality_is_exact.ensures))
    (sum_exact _ _ (field_exact _
    (c.response_equality_is_exact-2.ensures))
    (sum_exact _ _ (field_exact _
    (c.response_equality_is_exact-3.ensures))
    (none_exact (λ x y. absurd
    x))))))))))))))))))))))))))))
