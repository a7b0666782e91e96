-- What the default handler of simple queries means: it keeps what the messages give, by the table of requests.
use Rattle.std.specs.Prelude.{◌≡◌, ◌⊎◌, ℕ, List, Bool, true, false, is_some, Ok, Err, Result}
use Rattle.pgw_types.specs.declared.error.PgWireError.{PgWireError}
use Rattle.pgw_startup.specs.declared.parameter_status.ParameterStatus.{ParameterStatus}
use Rattle.pgw_query.specs.Rows.{NoticeResponse}
use Rattle.pgw_query.specs.declared.notification.NotificationResponse.{NotificationResponse}
use Rattle.pgw_backend.specs.ClientError.{IsUnexpected}
use Rattle.pgw_backend.specs.declared.backend.PgWireBackendMessage.{PgWireBackendMessage as Backend}
use Rattle.pgw_backend.specs.declared.backend.PgWireBackendMessage.TheVariants as backend
use Rattle.pgw_backend.specs.declared.client_error.PgWireClientError.TheVariants.{OutOfMemory}
use Rattle.pgw_frontend.specs.declared.frontend.PgWireFrontendMessage.TheVariants as frontend
use Rattle.pgw_frontend.specs.Frontend.{encoding}
use Rattle.pgw_session.specs.declared.tally.Tally.{Tally}
use Rattle.pgw_session.specs.declared.types.Response.{Response}
use Rattle.pgw_session.specs.declared.stage.Kind.TheVariants as kind
use Rattle.pgw_session.specs.declared.stage.Role.{Role}
use Rattle.pgw_session.specs.declared.stage.Role.TheVariants.{Misplaced}
use Rattle.pgw_session.specs.Requests.{role}
use Rattle.pgw_session.specs.Answers.{no_tally, tally_after}
use Rattle.pgw_handlers.specs.declared.client_info.ReadyState.TheVariants.{Pending, Ready}
use Rattle.pgw_handlers.specs.Sending.{Sent, NotSent}
use Rattle.pgw_handlers.specs.Handling.{HandlerView, standing, CallAnswer, HandlerStays, KeepsParameter, HandlerMisplaces, HandlerRefuses}
use Rattle.pgw_handlers.specs.Simple.{SimpleCall, simple_query, on_row_description, on_data_row, on_command_complete, on_empty_query, on_parameter_status, on_notice, on_notification, on_ready_for_query}
use Rattle.pgw_handlers_default.specs.declared.simple.DefaultSimpleQueryHandler.{DefaultSimpleQueryHandler}

abbrev pub with_tally : Tally → HandlerView DefaultSimpleQueryHandler
    → HandlerView DefaultSimpleQueryHandler
with_tally t s = standing (record { tally = t }) s.sight

-- rows may come where a result is open
abbrev pub role_of : Tally → Backend → Role
role_of t m = role kind.Simple (is_some t.opened) m

abbrev pub is_misplaced : Role → Bool
is_misplaced Misplaced = true
is_misplaced r = false

-- A message is noted where the table takes it, and refused where it has no place. Where memory is wanting the tally is
-- not told.
abbrev pub NotesUnless : Bool → HandlerView DefaultSimpleQueryHandler → Backend
    → HandlerView DefaultSimpleQueryHandler → CallAnswer (List Response) → Type 0
NotesUnless true before m after answer = HandlerRefuses (IsUnexpected m) before after answer
NotesUnless false before m after (Ok answer) =
    (after ≡ with_tally (tally_after before.handler.tally m) before) × (answer ≡ Pending)
NotesUnless false before m after (Err e) = (after.sight ≡ before.sight) × (e ≡ OutOfMemory)

abbrev pub NotesMessage : HandlerView DefaultSimpleQueryHandler → Backend
    → HandlerView DefaultSimpleQueryHandler → CallAnswer (List Response) → Type 0
NotesMessage before m after answer =
    NotesUnless (is_misplaced (role_of before.handler.tally m)) before m after answer

abbrev pub query_bytes : List ℕ → Result (List ℕ) PgWireError
query_bytes q = encoding (frontend.Query (record { query = q }))

-- a query is sent, and what an earlier one gave is forgotten
abbrev pub AsksSimpleQuery : List ℕ → HandlerView DefaultSimpleQueryHandler
    → HandlerView DefaultSimpleQueryHandler → CallAnswer (List Response) → Type 0
AsksSimpleQuery q before after (Ok answer) =
    (after.handler.tally ≡ no_tally) × Sent (query_bytes q) before.sight after.sight
    × (answer ≡ Pending)
AsksSimpleQuery q before after (Err e) =
    (after.handler.tally ≡ no_tally)
    × (NotSent (query_bytes q) before.sight after.sight e ⊎
    ((after.sight ≡ before.sight) × (e ≡ OutOfMemory)))

-- the responses are given, in order
abbrev pub GivesResponses : HandlerView DefaultSimpleQueryHandler
    → HandlerView DefaultSimpleQueryHandler → CallAnswer (List Response) → Type 0
GivesResponses before after answer =
    (after ≡ with_tally no_tally before) × (answer ≡ Ok (Ready before.handler.tally.responses))

abbrev pub QueryMeans : HandlerView DefaultSimpleQueryHandler → SimpleCall
    → HandlerView DefaultSimpleQueryHandler → CallAnswer (List Response) → Type 0
QueryMeans before (simple_query q) after answer = AsksSimpleQuery q before after answer
QueryMeans before (on_row_description m) after answer =
    NotesMessage before (backend.RowDescription m) after answer
QueryMeans before (on_data_row m) after answer =
    NotesMessage before (backend.DataRow m) after answer
QueryMeans before (on_command_complete m) after answer =
    NotesMessage before (backend.CommandComplete m) after answer
QueryMeans before (on_empty_query m) after answer =
    NotesMessage before (backend.EmptyQueryResponse m) after answer
QueryMeans before (on_parameter_status m) after answer = KeepsParameter m before after answer
QueryMeans before (on_notice m) after answer = HandlerStays before after answer
QueryMeans before (on_notification m) after answer = HandlerMisplaces m before after answer
QueryMeans before (on_ready_for_query m) after answer = GivesResponses before after answer

-- ---- the trait's own bodies

abbrev pub keeps_in_simple : (before after : HandlerView DefaultSimpleQueryHandler)
    → (m : ParameterStatus) → (answer : CallAnswer (List Response))
    → KeepsParameter m before after answer
    → QueryMeans before (on_parameter_status m) after answer
keeps_in_simple before after m answer kept = kept

abbrev pub passes_simple_notices : (before after : HandlerView DefaultSimpleQueryHandler)
    → (m : NoticeResponse) →
    (answer : CallAnswer (List Response)) → HandlerStays before after answer →
    QueryMeans before (on_notice m) after answer
passes_simple_notices before after m answer passed = passed

abbrev pub misplaces_notifications : (before after : HandlerView DefaultSimpleQueryHandler) →
    (m : NotificationResponse) → (answer : CallAnswer (List Response))
    → HandlerMisplaces m before after answer →
    QueryMeans before (on_notification m) after answer
misplaces_notifications before after m answer refused = refused
