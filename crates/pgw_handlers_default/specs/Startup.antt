-- What the default handler of a login means: it logs in by the table of a session's startup segment.
use Rattle.std.specs.Prelude.{◌≡◌, ◌⊎◌, pos, negsuc, [], Bool, true, false, Option, Some, None, Ok, Err, Result}
use Rattle.pgw_wire.specs.declared.secret_key.SecretKey.TheVariants.{I32}
use Rattle.pgw_startup.specs.declared.backend_key_data.BackendKeyData.{BackendKeyData}
use Rattle.pgw_startup.specs.declared.negotiate.NegotiateProtocolVersion.{NegotiateProtocolVersion}
use Rattle.pgw_startup.specs.declared.parameter_status.ParameterStatus.{ParameterStatus}
use Rattle.pgw_query.specs.Rows.{NoticeResponse}
use Rattle.pgw_query.specs.declared.notification.NotificationResponse.{NotificationResponse}
use Rattle.pgw_backend.specs.ClientError.{IsUnexpected}
use Rattle.pgw_backend.specs.declared.backend.PgWireBackendMessage.{PgWireBackendMessage as Backend}
use Rattle.pgw_backend.specs.declared.backend.PgWireBackendMessage.TheVariants as backend
use Rattle.pgw_backend.specs.declared.client_error.PgWireClientError.{PgWireClientError as ClientError}
use Rattle.pgw_backend.specs.declared.client_error.PgWireClientError.TheVariants as client
use Rattle.pgw_frontend.specs.declared.frontend.PgWireFrontendMessage.{PgWireFrontendMessage as Frontend}
use Rattle.pgw_frontend.specs.Frontend.{encoding}
use Rattle.pgw_config.specs.declared.config.Config.{Config}
use Rattle.pgw_session.specs.Input.{input_with, Input}
use Rattle.pgw_session.specs.declared.stage.Stage.{Stage}
use Rattle.pgw_session.specs.declared.stage.Stage.TheVariants.{Starting, Challenged, Proving}
use Rattle.pgw_session.specs.declared.stage.Next.{Next}
use Rattle.pgw_session.specs.declared.stage.Next.TheVariants as next
use Rattle.pgw_session.specs.Segments.{startup_message}
use Rattle.pgw_session.specs.Table.{next_after as table}
use Rattle.pgw_handlers.specs.declared.client_info.ReadyState.TheVariants.{Pending, Ready}
use Rattle.pgw_handlers.specs.declared.client_info.ServerInformation.{ServerInformation}
use Rattle.pgw_handlers.specs.Client.{Client, Sight}
use Rattle.pgw_handlers.specs.Sending.{Sent, NotSent}
use Rattle.pgw_handlers.specs.Handling.{HandlerView, standing, CallAnswer, HandlerStays, KeepsParameter, HandlerMisplaces, HandlerRefuses}
use Rattle.pgw_handlers.specs.Startup.{StartupCall, startup, on_authentication, on_negotiate_protocol_version, on_parameter_status, on_notice, on_notification, on_backend_key, on_ready_for_query, SettlesVersion}
use Rattle.pgw_handlers_default.specs.declared.startup.DefaultStartupHandler.{DefaultStartupHandler}

-- what it logs in with: the client's configuration and the handler's nonce
abbrev pub login_input : DefaultStartupHandler → Config → Input
login_input h config = input_with config [] h.nonce

-- within a SCRAM login a server says nothing else
abbrev pub is_exchange : Stage → Bool
is_exchange (Challenged login) = true
is_exchange (Proving expected) = true
is_exchange stage = false

abbrev pub exchanges : DefaultStartupHandler → Bool
exchanges h = is_exchange h.stage

-- ---- the handler's parts

abbrev pub with_stage : Stage → DefaultStartupHandler → DefaultStartupHandler
with_stage stage h = record h { stage = stage }

abbrev pub with_handler_key : BackendKeyData → DefaultStartupHandler → DefaultStartupHandler
with_handler_key m h = record h { process_id = m.pid; secret_key = m.secret_key }

-- a login that has not begun
abbrev pub fresh_startup : DefaultStartupHandler → DefaultStartupHandler
fresh_startup h = record h { stage = Starting; process_id = negsuc 0; secret_key = I32 (pos 0) }

-- ---- an authentication request

-- one message is sent, or none
abbrev pub SendsReply : Option Frontend → Sight → Sight → Result (Unit {0}) ClientError → Type 0
SendsReply None old new (Ok done) = new ≡ old
SendsReply None old new (Err e) = ⊥
SendsReply (Some m) old new (Ok done) = Sent (encoding m) old new
SendsReply (Some m) old new (Err e) = NotSent (encoding m) old new e

-- A reply is sent and the stage is the next one; where it is not sent the handler stays as it is. What does not go on is
-- refused.
abbrev pub FollowsNext : Next → Backend → HandlerView DefaultStartupHandler
    → HandlerView DefaultStartupHandler → CallAnswer ServerInformation → Type 0
FollowsNext (next.Goes stage reply) m before after (Ok answer) =
    (after.handler ≡ with_stage stage before.handler)
    × SendsReply reply before.sight after.sight (Ok tt) × (answer ≡ Pending)
FollowsNext (next.Goes stage reply) m before after (Err e) =
    (after.handler ≡ before.handler) × SendsReply reply before.sight after.sight (Err e)
FollowsNext (next.Refuses x) m before after answer =
    HandlerRefuses (λ e. e ≡ x) before after answer
FollowsNext other m before after answer = HandlerRefuses (IsUnexpected m) before after answer

-- memory was wanting, and nothing is done
abbrev pub Starves : HandlerView DefaultStartupHandler → HandlerView DefaultStartupHandler
    → CallAnswer ServerInformation → Type 0
Starves before after answer = HandlerRefuses (λ e. e ≡ client.OutOfMemory) before after answer

abbrev pub StartupLogsIn : Backend → HandlerView DefaultStartupHandler
    → HandlerView DefaultStartupHandler → CallAnswer ServerInformation → Type 0
StartupLogsIn m before after answer =
    FollowsNext (table (login_input before.handler before.sight.client.config)
    before.handler.stage m) m before after answer
    ⊎ Starves before after answer

-- ---- the others

-- the startup message is sent, and a login begins anew
abbrev pub BeginsStartup : HandlerView DefaultStartupHandler → HandlerView DefaultStartupHandler
    → CallAnswer ServerInformation → Type 0
BeginsStartup before after (Ok answer) =
    (after.handler ≡ fresh_startup before.handler)
    × Sent (encoding (startup_message (login_input before.handler
    before.sight.client.config))) before.sight after.sight
    × (answer ≡ Pending)
BeginsStartup before after (Err e) =
    (after.handler ≡ fresh_startup before.handler)
    × (NotSent (encoding (startup_message (login_input before.handler
    before.sight.client.config))) before.sight after.sight e
    ⊎ ((after.sight ≡ before.sight) × (e ≡ client.OutOfMemory)))

-- the handler keeps the process number and the key
abbrev pub KeepsKey : BackendKeyData → HandlerView DefaultStartupHandler
    → HandlerView DefaultStartupHandler → CallAnswer ServerInformation → Type 0
KeepsKey m before after answer =
    (after ≡ standing (with_handler_key m before.handler) before.sight) × (answer ≡ Ok Pending)

-- the client's parameters, and the process number and key that came last
abbrev pub information : DefaultStartupHandler → Client → ServerInformation
information h c =
    record { parameters = c.parameters; process_id = h.process_id; secret_key = h.secret_key }

abbrev pub GivesInformation : HandlerView DefaultStartupHandler
    → HandlerView DefaultStartupHandler → CallAnswer ServerInformation → Type 0
GivesInformation before after (Ok answer) =
    (after ≡ before) × (answer ≡ Ready (information before.handler before.sight.client))
GivesInformation before after (Err e) = (after ≡ before) × (e ≡ client.OutOfMemory)

-- the segment closes
abbrev pub closes : Next → Bool
closes next.Closes = true
closes other = false

-- where the table closes the segment the information is given, and else the message has no place
abbrev pub Concludes : Bool → Backend → HandlerView DefaultStartupHandler
    → HandlerView DefaultStartupHandler → CallAnswer ServerInformation → Type 0
Concludes true m before after answer = GivesInformation before after answer
Concludes false m before after answer = HandlerRefuses (IsUnexpected m) before after answer

abbrev pub HandlerLetsIn : Backend → HandlerView DefaultStartupHandler
    → HandlerView DefaultStartupHandler → CallAnswer ServerInformation → Type 0
HandlerLetsIn m before after answer =
    Concludes (closes (table (login_input before.handler before.sight.client.config)
    before.handler.stage m)) m before after answer

abbrev pub StartupMeans : HandlerView DefaultStartupHandler → StartupCall
    → HandlerView DefaultStartupHandler → CallAnswer ServerInformation → Type 0
StartupMeans before startup after answer = BeginsStartup before after answer
StartupMeans before (on_authentication m) after answer =
    StartupLogsIn (backend.Authentication m) before after answer
StartupMeans before (on_negotiate_protocol_version m) after answer =
    SettlesVersion m before after answer
StartupMeans before (on_parameter_status m) after answer = KeepsParameter m before after answer
StartupMeans before (on_notice m) after answer = HandlerStays before after answer
StartupMeans before (on_notification m) after answer = HandlerMisplaces m before after answer
StartupMeans before (on_backend_key m) after answer = KeepsKey m before after answer
StartupMeans before (on_ready_for_query m) after answer =
    HandlerLetsIn (backend.ReadyForQuery m) before after answer

-- ---- the trait's own bodies

abbrev pub settles_version : (before after : HandlerView DefaultStartupHandler)
    → (m : NegotiateProtocolVersion) → (answer : CallAnswer ServerInformation)
    → SettlesVersion m before after answer
    → StartupMeans before (on_negotiate_protocol_version m) after answer
settles_version before after m answer settled = settled

abbrev pub keeps_in_startup : (before after : HandlerView DefaultStartupHandler)
    → (m : ParameterStatus) → (answer : CallAnswer ServerInformation)
    → KeepsParameter m before after answer
    → StartupMeans before (on_parameter_status m) after answer
keeps_in_startup before after m answer kept = kept

abbrev pub passes_notices : (before after : HandlerView DefaultStartupHandler)
    → (m : NoticeResponse) →
    (answer : CallAnswer ServerInformation) → HandlerStays before after answer →
    StartupMeans before (on_notice m) after answer
passes_notices before after m answer passed = passed

abbrev pub misplaces_notifications : (before after : HandlerView DefaultStartupHandler) →
    (m : NotificationResponse) → (answer : CallAnswer ServerInformation)
    → HandlerMisplaces m before after answer →
    StartupMeans before (on_notification m) after answer
misplaces_notifications before after m answer refused = refused
