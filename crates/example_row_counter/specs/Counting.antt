-- What a handler means that counts rows and keeps none.
use Rattle.std.specs.Prelude.{◌≡◌, ◌⊎◌, ℕ, ◌+◌, ◌-◌, ◌^◌, min, List, [], ◌∷◌, Ok, Err, Result}
use Rattle.pgw_types.specs.declared.error.PgWireError.{PgWireError}
use Rattle.pgw_backend.specs.declared.client_error.PgWireClientError.{PgWireClientError as ClientError}
use Rattle.pgw_backend.specs.declared.client_error.PgWireClientError.TheVariants.{OutOfMemory}
use Rattle.pgw_frontend.specs.declared.frontend.PgWireFrontendMessage.TheVariants as frontend
use Rattle.pgw_frontend.specs.Frontend.{encoding}
use Rattle.pgw_handlers.specs.declared.client_info.ReadyState.{ReadyState}
use Rattle.pgw_handlers.specs.declared.client_info.ReadyState.TheVariants.{Pending, Ready}
use Rattle.pgw_handlers.specs.Sending.{Sent, NotSent}
use Rattle.pgw_startup.specs.declared.parameter_status.ParameterStatus.{ParameterStatus}
use Rattle.pgw_query.specs.Rows.{NoticeResponse}
use Rattle.pgw_query.specs.declared.notification.NotificationResponse.{NotificationResponse}
use Rattle.pgw_handlers.specs.Handling.{HandlerView, standing, CallAnswer, HandlerStays as NothingDone, KeepsParameter, HandlerMisplaces}
use Rattle.pgw_handlers.specs.Simple.{SimpleCall, simple_query, on_row_description, on_data_row, on_command_complete, on_empty_query, on_parameter_status, on_notice, on_notification, on_ready_for_query}
use Rattle.example_row_counter.specs.declared.row_counter.RowCounter.{RowCounter}

-- one more, up to the greatest u64
abbrev pub next_row_count : ℕ → ℕ
next_row_count n = min (n + 1) (2 ^ 64 - 1)

abbrev pub with_count : ℕ → HandlerView RowCounter → HandlerView RowCounter
with_count n s = standing (record { count = n }) s.sight

abbrev pub count_query_bytes : List ℕ → Result (List ℕ) PgWireError
count_query_bytes q = encoding (frontend.Query (record { query = q }))

abbrev pub CounterStays : HandlerView RowCounter → HandlerView RowCounter → ReadyState (List ℕ)
    → Type 0
CounterStays before after answer = (after ≡ before) × (answer ≡ Pending)

-- the call went well: a query begins the count anew, a row adds one, and ReadyForQuery tells the count
abbrev pub CountsRows : HandlerView RowCounter → SimpleCall → HandlerView RowCounter
    → ReadyState (List ℕ) → Type 0
CountsRows before (simple_query q) after answer =
    (after.handler.count ≡ 0) × Sent (count_query_bytes q) before.sight after.sight
    × (answer ≡ Pending)
CountsRows before (on_row_description m) after answer = CounterStays before after answer
CountsRows before (on_data_row m) after answer =
    (after ≡ with_count (next_row_count before.handler.count) before) × (answer ≡ Pending)
CountsRows before (on_command_complete m) after answer = CounterStays before after answer
CountsRows before (on_empty_query m) after answer = CounterStays before after answer
CountsRows before (on_ready_for_query m) after answer =
    (after ≡ before) × (answer ≡ Ready (before.handler.count ∷ []))
CountsRows before call after answer = ⊥

-- the call failed: the query could not be sent, or memory ran out
abbrev pub FailsRowCount : HandlerView RowCounter → SimpleCall → HandlerView RowCounter
    → ClientError → Type 0
FailsRowCount before (simple_query q) after e =
    (after.handler.count ≡ 0)
    × (NotSent (count_query_bytes q) before.sight after.sight e ⊎
    ((after.sight ≡ before.sight) × (e ≡ OutOfMemory)))
FailsRowCount before (on_ready_for_query m) after e = (after ≡ before) × (e ≡ OutOfMemory)
FailsRowCount before call after e = ⊥

-- what it does; with a parameter, a notice and a notification it does as the trait's own bodies
abbrev pub CountMeans : HandlerView RowCounter → SimpleCall → HandlerView RowCounter
    → CallAnswer (List ℕ) → Type 0
CountMeans before (on_parameter_status m) after answer = KeepsParameter m before after answer
CountMeans before (on_notice m) after answer = NothingDone before after answer
CountMeans before (on_notification m) after answer = HandlerMisplaces m before after answer
CountMeans before call after (Ok answer) = CountsRows before call after answer
CountMeans before call after (Err e) = FailsRowCount before call after e

-- ---- the trait's own bodies

abbrev pub keeps_in_counter : (before after : HandlerView RowCounter) → (m : ParameterStatus)
    → (answer : CallAnswer (List ℕ)) → KeepsParameter m before after answer
    → CountMeans before (on_parameter_status m) after answer
keeps_in_counter before after m answer kept = kept

abbrev pub counter_passes_notices : (before after : HandlerView RowCounter)
    → (m : NoticeResponse) →
    (answer : CallAnswer (List ℕ)) → NothingDone before after answer →
    CountMeans before (on_notice m) after answer
counter_passes_notices before after m answer passed = passed

abbrev pub counts_no_notifications : (before after : HandlerView RowCounter)
    → (m : NotificationResponse) →
    (answer : CallAnswer (List ℕ)) → HandlerMisplaces m before after answer →
    CountMeans before (on_notification m) after answer
counts_no_notifications before after m answer refused = refused
