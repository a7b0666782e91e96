-- A client's call of extended queries, by its answer.
use Rattle.std.specs.Prelude.{ℕ, Bool, true, false, List, []}
use Rattle.pgw_query.specs.declared.data.DataRow.{DataRow}
use Rattle.pgw_session.specs.declared.types.Request.{Request}
use Rattle.pgw_session.specs.declared.types.Request.TheVariants as request
use Rattle.pgw_session.specs.declared.types.ExecuteResult.{ExecuteResult}
use Rattle.pgw_session.specs.declared.types.ExecuteResult.TheVariants as execute
use Rattle.pgw_session.specs.declared.types.Answer.{Answer}
use Rattle.pgw_session.specs.declared.types.Answer.TheVariants as answer
use Rattle.pgw_handlers.specs.Client.{Client}
use Rattle.pgw_handlers_default.specs.declared.extended.DefaultExtendedQueryHandler.{DefaultExtendedQueryHandler}
use Rattle.pgw_client_calls.specs.declared.gathered.Gathered.{Gathered}
use Rattle.pgw_client_calls.specs.Line.{Reasons}
use Rattle.pgw_client_calls.specs.Extended.{Finish}
use Rattle.pgw_client_laws.specs.Calls.{Comes}

-- a request of the extended queries
abbrev pub IsExtended : Request → Type 0
IsExtended (request.Simple query) = ⊥
IsExtended q = Unit {0}

-- the rows of a portal, by whether it was suspended
abbrev pub portal_result : Bool → List DataRow → ExecuteResult (List DataRow)
portal_result true rows = execute.Suspended rows
portal_result false rows = execute.Complete rows

-- what was gathered, as the request's answer
abbrev pub call_answer : Request → Gathered (List DataRow) × Bool → Answer
call_answer (request.Simple query) x = answer.Responses []
call_answer (request.Prepare name query types) x =
    answer.Prepared (record { name = name; param_types = (x.0).types })
call_answer (request.Bind portal statement parameters formats) x = answer.Bound
call_answer (request.Execute portal max_rows) x =
    answer.Executed (portal_result x.1 (x.0).responses)
call_answer (request.Describe target) x =
    answer.Described (record { param_types = (x.0).types; fields = (x.0).columns })
call_answer (request.Close target) x = answer.Closed
call_answer (request.Query query types parameters) x = answer.Rows (x.0).responses

-- the call came to this end
abbrev pub EndsExtendedCall : Request → Client → List ℕ → List ℕ → Reasons
    → Finish DefaultExtendedQueryHandler DataRow → Type 0
EndsExtendedCall q c bytes sent P end =
    Comes (call_answer q) P q c bytes sent end.info end.rest end.answer end.broken
