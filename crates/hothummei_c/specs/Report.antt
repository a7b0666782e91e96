-- What is kept of a session's report.
use Rattle.std.specs.Prelude.{List, [], ◌∷◌, map, Some, None}
use Rattle.pgw_query.specs.declared.data.DataRow.{DataRow}
use Rattle.pgw_query.specs.declared.field_info.FieldInfo.{FieldInfo}
use Rattle.pgw_query.specs.declared.pg_type.PgType.{PgType}
use Rattle.pgw_session.specs.declared.types.Answer.{Answer}
use Rattle.pgw_session.specs.declared.types.Answer.TheVariants as answer
use Rattle.pgw_session.specs.declared.types.DescribeResponse.{DescribeResponse}
use Rattle.pgw_session.specs.declared.types.ExecuteResult.TheVariants as execute
use Rattle.pgw_session.specs.declared.types.Response.{Response}
use Rattle.pgw_session.specs.declared.types.Response.TheVariants as response
use Rattle.pgw_session.specs.declared.types.SessionReport.{SessionReport}
use Rattle.pgw_wire.specs.Keys.{key_bytes}
use Rattle.hothummei_c.specs.declared.report.AnswerKind.{AnswerKind}
use Rattle.hothummei_c.specs.declared.report.AnswerKind.TheVariants as kind
use Rattle.hothummei_c.specs.declared.report.CommandResult.{CommandResult}
use Rattle.hothummei_c.specs.declared.report.Report.{Report}
use Rattle.hothummei_c.specs.declared.report.ResultKind.TheVariants as shape
use Rattle.hothummei_c.specs.declared.report.Told.{Told}

abbrev pub rows_result : List FieldInfo → List DataRow → CommandResult
rows_result fields rows = record { kind = shape.Rows; tag = None; fields = fields; rows = rows }

abbrev pub command_result : Response → CommandResult
command_result response.EmptyQuery =
    record { kind = shape.Nothing; tag = None; fields = []; rows = [] }
command_result (response.Query tag fields rows) =
    record { kind = shape.Rows; tag = Some tag; fields = fields; rows = rows }
command_result (response.Execution tag) =
    record { kind = shape.Command; tag = Some tag; fields = []; rows = [] }

abbrev pub plain_told : AnswerKind → Told
plain_told kind = record { kind = kind; results = []; types = []; error = None }

abbrev pub told_with : AnswerKind → List PgType → CommandResult → Told
told_with kind types result =
    record { kind = kind; results = result ∷ []; types = types; error = None }

abbrev pub told_described : DescribeResponse → Told
told_described told = told_with kind.Described told.param_types (rows_result told.fields [])

abbrev pub told_of : Answer → Told
told_of (answer.Responses responses) =
    record {
      kind = kind.Responses;
      results = map command_result responses;
      types = [];
      error =
          None;
    }
told_of (answer.Prepared told) =
    record { kind = kind.Prepared; results = []; types = told.param_types; error = None }
told_of answer.Bound = plain_told kind.Bound
told_of (answer.Executed (execute.Complete rows)) =
    told_with kind.Complete [] (rows_result [] rows)
told_of (answer.Executed (execute.Suspended rows)) =
    told_with kind.Suspended [] (rows_result [] rows)
told_of (answer.Described told) = told_described told
told_of answer.Closed = plain_told kind.Closed
told_of (answer.Rows rows) = told_with kind.Rows [] (rows_result [] rows)
told_of (answer.Remote e) =
    record { kind = kind.Remote; results = []; types = []; error = Some e }

abbrev pub kept_report : SessionReport → Report
kept_report report = record {
  version = report.version;
  parameters = report.parameters;
  process_id = report.process_id;
  key = key_bytes report.secret_key;
  status = report.status;
  answers = map told_of report.answers;
}
