-- The answer of a request, by its segment.
use Rattle.std.specs.Prelude.{ℕ, List, [], ◌∷◌, ◌++◌, fold, map, Option, Some, None}
use Rattle.pgw_query.specs.Tags.{tag_of}
use Rattle.pgw_query.specs.Fields.{field_info_of, type_of}
use Rattle.pgw_query.specs.declared.field_info.FieldInfo.{FieldInfo}
use Rattle.pgw_query.specs.declared.data.DataRow.{DataRow}
use Rattle.pgw_query.specs.Rows.{ErrorResponse}
use Rattle.pgw_backend.specs.declared.backend.PgWireBackendMessage.{PgWireBackendMessage as Backend}
use Rattle.pgw_backend.specs.declared.backend.PgWireBackendMessage.TheVariants as backend
use Rattle.pgw_session.specs.declared.types.Request.{Request}
use Rattle.pgw_session.specs.declared.types.Request.TheVariants as request
use Rattle.pgw_session.specs.declared.types.Response.{Response}
use Rattle.pgw_session.specs.declared.types.Response.TheVariants as response
use Rattle.pgw_session.specs.declared.types.ExecuteResult.{ExecuteResult}
use Rattle.pgw_session.specs.declared.types.ExecuteResult.TheVariants as execute
use Rattle.pgw_session.specs.declared.types.Answer.{Answer}
use Rattle.pgw_session.specs.declared.types.Answer.TheVariants as answer
use Rattle.pgw_session.specs.declared.tally.Tally.{Tally}
use Rattle.pgw_session.specs.declared.tally.Opened.{Opened}
use Rattle.pgw_session.specs.Events.{Event, Sent, Got}

-- a command with a result, or without one
abbrev pub response_of : Option Opened → List ℕ → Response
response_of None tag = response.Execution (tag_of tag)
response_of (Some opened) tag = response.Query (tag_of tag) opened.fields opened.rows

-- a row is one of the open result, or else of the portal
abbrev pub with_row : Option Opened → Tally → DataRow → Tally
with_row None t row = record t { rows = t.rows ++ row ∷ [] }
with_row (Some opened) t row =
    record t { opened = Some (record opened { rows = opened.rows ++ row ∷ [] }) }

-- a portal ends with the rows up to then, if it has not ended before
abbrev pub with_end : Option (ExecuteResult (List DataRow)) → Tally → ExecuteResult (List DataRow)
    → Tally
with_end None t result = record t { executed = Some result; rows = [] }
with_end (Some first) t result = t

-- A RowDescription opens a result, and drops an open one; CommandComplete closes it. Of parameters the last
-- description stays.
abbrev pub tally_with : Tally → Backend → Tally
tally_with t (backend.RowDescription m) =
    record t { opened = Some (record { fields = map field_info_of m.fields; rows = [] }) }
tally_with t (backend.ParameterDescription m) = record t { param_types = map type_of m.types }
tally_with t (backend.DataRow m) = with_row t.opened t m
tally_with t (backend.CommandComplete m) =
    with_end t.executed (record t {
      responses = t.responses ++ response_of t.opened m.tag ∷ [];
      opened = None;
    }) (execute.Complete t.rows)
tally_with t (backend.EmptyQueryResponse m) =
    with_end t.executed (record t { responses = t.responses ++ response.EmptyQuery ∷ [] })
    (execute.Complete t.rows)
tally_with t (backend.PortalSuspended m) = with_end t.executed t (execute.Suspended t.rows)
tally_with t (backend.ErrorResponse m) = record t { remote = Some m }
tally_with t m = t

-- behind an error nothing more is noted
abbrev pub noted_unless : Option ErrorResponse → Tally → Backend → Tally
noted_unless None t m = tally_with t m
noted_unless (Some e) t m = t

abbrev pub tally_after : Tally → Backend → Tally
tally_after t m = noted_unless t.remote t m

abbrev pub no_tally : Tally
no_tally =
    record {
      responses = [];
      opened = None;
      param_types = [];
      rows = [];
      executed = None;
      remote =
          None;
    }

abbrev pub tally_at : Tally → Event → Tally
tally_at t (Sent m) = t
tally_at t (Got m) = tally_after t m

unfoldable pub tally_of : List Event → Tally
tally_of es = fold tally_at no_tally es

-- a segment without an error has an end of its portal
abbrev pub executed_of : Option (ExecuteResult (List DataRow)) → ExecuteResult (List DataRow)
executed_of None = execute.Complete []
executed_of (Some result) = result

-- the rows up to the end of a portal
abbrev pub rows_until : Option (ExecuteResult (List DataRow)) → List DataRow
rows_until None = []
rows_until (Some (execute.Complete rows)) = rows
rows_until (Some (execute.Suspended rows)) = rows

-- the columns described last
abbrev pub last_columns : Option Opened → List FieldInfo
last_columns None = []
last_columns (Some opened) = opened.fields

-- what a request gives where no error came
abbrev pub result_of : Request → Tally → Answer
result_of (request.Simple query) t = answer.Responses t.responses
result_of (request.Prepare name query types) t =
    answer.Prepared (record { name = name; param_types = t.param_types })
result_of (request.Bind portal statement parameters formats) t = answer.Bound
result_of (request.Execute portal max_rows) t = answer.Executed (executed_of t.executed)
result_of (request.Describe target) t =
    answer.Described (record { param_types = t.param_types; fields = last_columns t.opened })
result_of (request.Close target) t = answer.Closed
result_of (request.Query query types parameters) t = answer.Rows (rows_until t.executed ++ t.rows)

-- the first error, or else the result
abbrev pub answer_with : Option ErrorResponse → Answer → Answer
answer_with None result = result
answer_with (Some e) result = answer.Remote e

abbrev pub answer_by : Request → Tally → Answer
answer_by q t = answer_with t.remote (result_of q t)

abbrev pub answer_of : Request → List Event → Answer
answer_of q es = answer_by q (tally_of es)

-- the answers of some requests, each by its own segment
abbrev pub answers_of : List Request → List (List Event) → List Answer
answers_of qs [] = []
answers_of [] (es ∷ segments) = []
answers_of (q ∷ qs) (es ∷ segments) = answer_of q es ∷ answers_of qs segments

-- the first ErrorResponse got
abbrev pub first_error : List Event → Option ErrorResponse
first_error [] = None
first_error (Sent m ∷ es) = first_error es
first_error (Got (backend.ErrorResponse m) ∷ es) = Some m
first_error (Got m ∷ es) = first_error es
