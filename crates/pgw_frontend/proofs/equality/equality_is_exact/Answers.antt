use Rattle.std.proofs.Common.{◌≡◌, ◌⊎◌, inl, inr, refl, ap}
use Rattle.pgw_frontend.specs.declared.frontend.SslNegotiationMetaMessage.TheVariants as negotiation
use Rattle.pgw_frontend.specs.declared.frontend.PgWireFrontendMessage.{PgWireFrontendMessage}
use Rattle.pgw_frontend.specs.declared.frontend.PgWireFrontendMessage.TheVariants as frontend
use Rattle.pgw_frontend.specs.contracts.frontend.PgWireFrontendMessage.{as_values}
use Rattle.pgw_frontend.specs.declared.frontend.SslNegotiationMetaMessage.{SslNegotiationMetaMessage}
use Rattle.pgw_startup.specs.declared.startup.Startup.{Startup}
use Rattle.pgw_control.specs.declared.cancel.CancelRequest.{CancelRequest}
use Rattle.pgw_startup.specs.declared.password.PasswordMessageFamily.{PasswordMessageFamily}
use Rattle.pgw_query.specs.declared.simplequery.Query.{Query}
use Rattle.pgw_ext.specs.declared.parse.Parse.{Parse}
use Rattle.pgw_ext.specs.declared.bind.Bind.{Bind}
use Rattle.pgw_ext.specs.declared.target.Close.{Close}
use Rattle.pgw_ext.specs.declared.target.Describe.{Describe}
use Rattle.pgw_ext.specs.declared.execute.Execute.{Execute}
use Rattle.pgw_copy.specs.declared.data.CopyData.{CopyData}
use Rattle.pgw_copy.specs.declared.data.CopyFail.{CopyFail}
use Rattle.pgw_wire.proofs.EqualLaws.{made_exact, none_exact, sum_exact, field_exact}
use Rattle.pgw_wire.specs.declared.empty.EmptyRequest.{EmptyRequest}
use Rattle.pgw_wire.specs.declared.empty.EmptyResponse.{EmptyResponse}
use Rattle.pgw_frontend.proofs.equality.equality_is_exact.Goals as goal

pub returns-clause-negotiation : goal.returns-clause-negotiation
returns-clause-negotiation c (negotiation.PostgresSsl x) (negotiation.PostgresSsl y) = (
  λ e. ap (λ z. negotiation.PostgresSsl z) ((c.equality_is_exact.ensures.ssl_request x y).0 e),
  λ e.
      (c.equality_is_exact.ensures.ssl_request x y).1 cc,
)
returns-clause-negotiation c (negotiation.PostgresGss x) (negotiation.PostgresGss y) = (
  λ e. ap (λ z. negotiation.PostgresGss z) ((c.equality_is_exact.ensures.gss_enc_request x y).0 e),
  λ e.
      (c.equality_is_exact.ensures.gss_enc_request x y).1 cc,
)
returns-clause-negotiation c negotiation.None negotiation.None = (λ e. refl, λ e. refl)
returns-clause-negotiation c x y = (λ e. absurd cc, λ e. absurd cc)

-- a message as one of its kinds
abbrev Kinds : Type 0
Kinds =
    (SslNegotiationMetaMessage × Unit {0})
    ⊎ ((Startup × Unit {0}) ⊎
    ((CancelRequest × Unit {0}) ⊎
    ((PasswordMessageFamily × Unit {0}) ⊎
    ((EmptyResponse 115 × Unit {0}) ⊎
    ((Query × Unit {0}) ⊎
    ((Parse × Unit {0}) ⊎
    ((Bind × Unit {0}) ⊎ ((Close × Unit {0}) ⊎
    ((Describe × Unit {0}) ⊎ ((Execute × Unit {0})
    ⊎ ((EmptyRequest 72 × Unit {0}) ⊎ ((EmptyRequest 83 × Unit {0})
    ⊎ ((EmptyRequest 88 × Unit {0}) ⊎ ((CopyData × Unit {0})
    ⊎ ((EmptyRequest 99 × Unit {0}) ⊎ ((CopyFail × Unit {0}) ⊎ ⊥))))))))))))))))

from_kind : Kinds → PgWireFrontendMessage
from_kind (inl x) = frontend.SslNegotiation x.0
from_kind (inr (inl x)) = frontend.Startup x.0
from_kind (inr (inr (inl x))) = frontend.CancelRequest x.0
from_kind (inr (inr (inr (inl x)))) = frontend.PasswordMessageFamily x.0
from_kind (inr (inr (inr (inr (inl x))))) = frontend.PortalSuspended x.0
from_kind (inr (inr (inr (inr (inr (inl x)))))) = frontend.Query x.0
from_kind (inr (inr (inr (inr (inr (inr (inl x))))))) = frontend.Parse x.0
from_kind (inr (inr (inr (inr (inr (inr (inr (inl x)))))))) = frontend.Bind x.0
from_kind (inr (inr (inr (inr (inr (inr (inr (inr (inl x))))))))) = frontend.Close x.0
from_kind (inr (inr (inr (inr (inr (inr (inr (inr (inr (inl x)))))))))) = frontend.Describe x.0
from_kind (inr (inr (inr (inr (inr (inr (inr (inr (inr (inr (inl x))))))))))) = frontend.Execute x.0
from_kind (inr (inr (inr (inr (inr (inr (inr (inr (inr (inr (inr (inl x)))))))))))) = frontend.Flush x.0
from_kind (inr (inr (inr (inr (inr (inr (inr (inr (inr (inr (inr (inr (inl x))))))))))))) = frontend.Sync x.0
from_kind (inr (inr (inr (inr (inr (inr (inr (inr (inr (inr (inr (inr (inr (inl x)))))))))))))) =
    frontend.Terminate x.0
from_kind (inr (inr (inr (inr (inr (inr (inr (inr (inr (inr (inr (inr (inr (inr (inl x))))))))))))))) =
    frontend.CopyData x.0
from_kind (inr (inr (inr (inr (inr (inr (inr (inr (inr (inr (inr (inr (inr (inr (inr (inl x)))))))))))))))) =
    frontend.CopyDone x.0
from_kind (inr (inr (inr (inr (inr (inr (inr (inr (inr (inr (inr (inr (inr (inr (inr (inr (inl x))))))))))))))))) =
    frontend.CopyFail x.0
from_kind (inr (inr (inr (inr (inr (inr (inr (inr (inr (inr (inr (inr (inr (inr (inr (inr (inr x)))))))))))))))))
    = absurd x

from_kind-as_values : (m : PgWireFrontendMessage) → from_kind (as_values m) ≡ m
unfolding from_kind
from_kind-as_values (frontend.SslNegotiation m) = refl
from_kind-as_values (frontend.Startup m) = refl
from_kind-as_values (frontend.CancelRequest m) = refl
from_kind-as_values (frontend.PasswordMessageFamily m) = refl
from_kind-as_values (frontend.PortalSuspended m) = refl
from_kind-as_values (frontend.Query m) = refl
from_kind-as_values (frontend.Parse m) = refl
from_kind-as_values (frontend.Bind m) = refl
from_kind-as_values (frontend.Close m) = refl
from_kind-as_values (frontend.Describe m) = refl
from_kind-as_values (frontend.Execute m) = refl
from_kind-as_values (frontend.Flush m) = refl
from_kind-as_values (frontend.Sync m) = refl
from_kind-as_values (frontend.Terminate m) = refl
from_kind-as_values (frontend.CopyData m) = refl
from_kind-as_values (frontend.CopyDone m) = refl
from_kind-as_values (frontend.CopyFail m) = refl

pub returns-clause-message : goal.returns-clause-message
returns-clause-message c =
    made_exact as_values from_kind from_kind-as_values _
    (sum_exact _ _ (field_exact _ (returns-clause-negotiation c))
    (sum_exact _ _ (field_exact _ (c.equality_is_exact-2.ensures.startup))
    (sum_exact _ _ (field_exact _ (c.equality_is_exact.ensures.cancel_request))
    (sum_exact _ _ (field_exact _ (c.equality_is_exact-2.ensures.password_message_family))
    (sum_exact _ _ (field_exact _ (c.empty_equality_is_exact.ensures.response))
    (sum_exact _ _ (field_exact _ (c.equality_is_exact-3.ensures.query))
    (sum_exact _ _ (field_exact _ (c.equality_is_exact-4.ensures.parse))
    (sum_exact _ _ (field_exact _ (c.equality_is_exact-4.ensures.bind))
    (sum_exact _ _ (field_exact _ (c.equality_is_exact-4.ensures.close))
    (sum_exact _ _ (field_exact _ (c.equality_is_exact-4.ensures.describe))
    (sum_exact _ _ (field_exact _ (c.equality_is_exact-4.ensures.execute))
    (sum_exact _ _ (field_exact _ (c.empty_equality_is_exact-2.ensures.request))
    (sum_exact _ _ (field_exact _ (c.empty_equality_is_exact-3.ensures.request))
    (sum_exact _ _ (field_exact _ (c.empty_equality_is_exact-4.ensures.request))
    (sum_exact _ _ (field_exact _ (c.equality_is_exact-5.ensures.copy_data))
    (sum_exact _ _ (field_exact _ (c.empty_equality_is_exact-5.ensures.request))
    (sum_exact _ _ (field_exact _ (c.equality_is_exact-5.ensures.copy_fail))
    (none_exact (λ x y. absurd x)))))))))))))))))))
