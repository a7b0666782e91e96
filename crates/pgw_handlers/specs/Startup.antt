-- What a handler of a login means.
use Rattle.std.specs.Prelude.{◌≡◌, Bool, true, false, not, Option, Some, None, Result, Ok, Err}
use Rattle.pgw_types.specs.declared.context.ProtocolVersion.{ProtocolVersion}
use Rattle.pgw_startup.specs.declared.authentication.Authentication.{Authentication}
use Rattle.pgw_startup.specs.declared.negotiate.NegotiateProtocolVersion.{NegotiateProtocolVersion}
use Rattle.pgw_startup.specs.declared.parameter_status.ParameterStatus.{ParameterStatus}
use Rattle.pgw_startup.specs.declared.backend_key_data.BackendKeyData.{BackendKeyData}
use Rattle.pgw_startup.specs.Negotiate.{negotiated_version}
use Rattle.pgw_query.specs.Rows.{NoticeResponse}
use Rattle.pgw_query.specs.declared.response.ReadyForQuery.{ReadyForQuery}
use Rattle.pgw_query.specs.declared.notification.NotificationResponse.{NotificationResponse}
use Rattle.pgw_backend.specs.declared.backend.PgWireBackendMessage.{PgWireBackendMessage as Backend}
use Rattle.pgw_backend.specs.declared.backend.PgWireBackendMessage.TheVariants as backend
use Rattle.pgw_backend.specs.declared.client_error.PgWireClientError.{PgWireClientError as ClientError}
use Rattle.pgw_backend.specs.declared.client_error.PgWireClientError.TheVariants as client
use Rattle.pgw_backend.specs.ClientError.{IsUnexpected}
use Rattle.pgw_handlers.specs.declared.client_info.ReadyState.TheVariants.{Pending}
use Rattle.pgw_handlers.specs.declared.client_info.ServerInformation.{ServerInformation}
use Rattle.pgw_handlers.specs.Client.{with_sight_version, with_sight_status}
use Rattle.pgw_handlers.specs.Handling.{HandlerView, standing, CallAnswer, HandlerRefuses}

-- a call of one of its functions, with its message
pub data StartupCall : Type 0 where
  startup : StartupCall
  on_authentication : Authentication → StartupCall
  on_negotiate_protocol_version : NegotiateProtocolVersion → StartupCall
  on_parameter_status : ParameterStatus → StartupCall
  on_notice : NoticeResponse → StartupCall
  on_notification : NotificationResponse → StartupCall
  on_backend_key : BackendKeyData → StartupCall
  on_ready_for_query : ReadyForQuery → StartupCall

-- a version that the server offers and the client knows is in force from then on
abbrev pub SettlesBy : {H A : Type 0} → Option ProtocolVersion → NegotiateProtocolVersion
    → HandlerView H → HandlerView H → CallAnswer A → Type 0
SettlesBy (Some version) m before after answer =
    (after ≡ standing before.handler (with_sight_version version before.sight))
    × (answer ≡ Ok Pending)
SettlesBy None m before after answer =
    HandlerRefuses (IsUnexpected (backend.NegotiateProtocolVersion m)) before after answer

abbrev pub SettlesVersion : {H A : Type 0} → NegotiateProtocolVersion → HandlerView H
    → HandlerView H → CallAnswer A → Type 0
SettlesVersion m before after answer =
    SettlesBy (negotiated_version m.newest_minor_protocol) m before after answer

-- within a login exchange a server says what the exchange consists of, or an error, and nothing else
abbrev pub may_come_in_login : Bool → Backend → Bool
may_come_in_login in_exchange (backend.Authentication m) = true
may_come_in_login in_exchange (backend.ErrorResponse m) = true
may_come_in_login in_exchange m = not in_exchange

-- the message is given back where it may come
abbrev pub IsAdmitted : Bool → Backend → Result Backend ClientError → Type 0
IsAdmitted in_exchange m (Ok same) = (same ≡ m) × (may_come_in_login in_exchange m ≡ true)
IsAdmitted in_exchange m (Err e) = IsUnexpected m e × (may_come_in_login in_exchange m ≡ false)

-- a message has its function, which is called, and behind ReadyForQuery with the status set
abbrev pub HearsStartup : {H : Type 0}
    → (HandlerView H → StartupCall → HandlerView H → CallAnswer ServerInformation → Type 0)
    → HandlerView H → Backend → HandlerView H → CallAnswer ServerInformation → Type 0
HearsStartup M before (backend.Authentication m) after answer =
    M before (on_authentication m) after answer
HearsStartup M before (backend.NegotiateProtocolVersion m) after answer =
    M before (on_negotiate_protocol_version m) after answer
HearsStartup M before (backend.ParameterStatus m) after answer =
    M before (on_parameter_status m) after answer
HearsStartup M before (backend.BackendKeyData m) after answer =
    M before (on_backend_key m) after answer
HearsStartup M before (backend.ReadyForQuery m) after answer =
    M (standing before.handler (with_sight_status m.status before.sight)) (on_ready_for_query m)
    after answer
HearsStartup M before (backend.ErrorResponse m) after answer =
    HandlerRefuses (λ e. e ≡ client.RemoteError m) before after answer
HearsStartup M before (backend.NoticeResponse m) after answer =
    M before (on_notice m) after answer
HearsStartup M before (backend.NotificationResponse m) after answer =
    M before (on_notification m) after answer
HearsStartup M before m after answer = HandlerRefuses (IsUnexpected m) before after answer

abbrev pub HearsIf : {H : Type 0} → Bool
    → (HandlerView H → StartupCall → HandlerView H → CallAnswer ServerInformation → Type 0)
    → HandlerView H → Backend → HandlerView H → CallAnswer ServerInformation → Type 0
HearsIf true M before m after answer = HearsStartup M before m after answer
HearsIf false M before m after answer = HandlerRefuses (IsUnexpected m) before after answer

-- what it is to hear a message, by whether the handler is in an exchange: it has its function, or may not come
abbrev pub HeardAtStartup : {H : Type 0} → (H → Bool)
    → (HandlerView H → StartupCall → HandlerView H → CallAnswer ServerInformation → Type 0)
    → HandlerView H → Backend → HandlerView H → CallAnswer ServerInformation → Type 0
HeardAtStartup exchanges M before m after answer =
    HearsIf (may_come_in_login (exchanges before.handler) m) M before m after answer
