-- What a handler of simple queries means.
use Rattle.std.specs.Prelude.{◌≡◌, ℕ, List, [], ◌∷◌, ◌++◌, length, Ok}
use Rattle.pgw_startup.specs.declared.parameter_status.ParameterStatus.{ParameterStatus}
use Rattle.pgw_query.specs.declared.data.RowDescription.{RowDescription}
use Rattle.pgw_query.specs.declared.data.DataRow.{DataRow}
use Rattle.pgw_query.specs.Runs.{SpellsRows}
use Rattle.pgw_query.specs.declared.response.CommandComplete.{CommandComplete}
use Rattle.pgw_query.specs.Rows.{NoticeResponse, EmptyQueryResponse}
use Rattle.pgw_query.specs.declared.response.ReadyForQuery.{ReadyForQuery}
use Rattle.pgw_query.specs.declared.notification.NotificationResponse.{NotificationResponse}
use Rattle.pgw_backend.specs.declared.backend.PgWireBackendMessage.{PgWireBackendMessage as Backend}
use Rattle.pgw_backend.specs.declared.backend.PgWireBackendMessage.TheVariants as backend
use Rattle.pgw_backend.specs.declared.client_error.PgWireClientError.TheVariants as client
use Rattle.pgw_backend.specs.ClientError.{IsUnexpected}
use Rattle.pgw_handlers.specs.Client.{with_sight_status, Sight}
use Rattle.pgw_handlers.specs.Handling.{HandlerView, standing, CallAnswer, HandlerRefuses, HandlerStays}
use Rattle.pgw_handlers.specs.declared.client_info.ReadyState.TheVariants.{Pending}

-- a call of one of its functions, with its query or its message
pub data SimpleCall : Type 0 where
  simple_query : List ℕ → SimpleCall
  on_row_description : RowDescription → SimpleCall
  on_data_row : DataRow → SimpleCall
  on_command_complete : CommandComplete → SimpleCall
  on_empty_query : EmptyQueryResponse → SimpleCall
  on_parameter_status : ParameterStatus → SimpleCall
  on_notice : NoticeResponse → SimpleCall
  on_notification : NotificationResponse → SimpleCall
  on_ready_for_query : ReadyForQuery → SimpleCall

-- what it is to hear a message: its function is called, and behind ReadyForQuery with the status set
abbrev pub HeardInQuery : {H R : Type 0}
    → (HandlerView H → SimpleCall → HandlerView H → CallAnswer (List R) → Type 0) → HandlerView H
    → Backend → HandlerView H → CallAnswer (List R) → Type 0
HeardInQuery M before (backend.RowDescription m) after answer =
    M before (on_row_description m) after answer
HeardInQuery M before (backend.DataRow m) after answer = M before (on_data_row m) after answer
HeardInQuery M before (backend.CommandComplete m) after answer =
    M before (on_command_complete m) after answer
HeardInQuery M before (backend.EmptyQueryResponse m) after answer =
    M before (on_empty_query m) after answer
HeardInQuery M before (backend.ParameterStatus m) after answer =
    M before (on_parameter_status m) after answer
HeardInQuery M before (backend.ReadyForQuery m) after answer =
    M (standing before.handler (with_sight_status m.status before.sight)) (on_ready_for_query m)
    after answer
HeardInQuery M before (backend.ErrorResponse m) after answer =
    HandlerRefuses (λ e. e ≡ client.RemoteError m) before after answer
HeardInQuery M before (backend.NoticeResponse m) after answer =
    M before (on_notice m) after answer
HeardInQuery M before (backend.NotificationResponse m) after answer =
    M before (on_notification m) after answer
HeardInQuery M before m after answer = HandlerRefuses (IsUnexpected m) before after answer

-- ---- rows that are taken together

-- they are heard one after the other, as each is by itself; for none is anything sent, or told of the client
pub data HearsRows {H R : Type 0}
    (M : HandlerView H → SimpleCall → HandlerView H → CallAnswer (List R) → Type 0)
    : List DataRow → H → H → Type 0 where
  none : (h : H) → HearsRows M [] h h
  hears : (row : DataRow) (rows : List DataRow) (h next after : H) →
      ((seen : Sight) → M (standing h seen) (on_data_row row) (standing next seen) (Ok Pending)) →
      HearsRows M rows next after → HearsRows M (row ∷ rows) h after

-- so many rows that stand whole at the front of some bytes were taken, and heard so
pub record TakesSimpleRows {H R : Type 0}
    (M : HandlerView H → SimpleCall → HandlerView H → CallAnswer (List R) → Type 0)
    (old new : H) (old_bytes new_bytes : List ℕ) (count : ℕ) : Type 0 where
  pub rows : List DataRow
  pub taken : List ℕ
  pub spelled : SpellsRows rows taken
  pub cut : old_bytes ≡ taken ++ new_bytes
  pub heard : HearsRows M rows old new
  pub counted : count ≡ length rows
