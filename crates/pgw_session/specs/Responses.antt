-- The rows of a response.
use Rattle.std.specs.Prelude.{[]}
use Rattle.pgw_rows.specs.Rows.{WaitingRows}
use Rattle.pgw_session.specs.declared.types.Response.{Response}
use Rattle.pgw_session.specs.declared.types.Response.TheVariants as response

-- only a command with a result has columns and rows
abbrev pub waiting_rows : Response → WaitingRows
waiting_rows response.EmptyQuery = record { fields = []; rows = [] }
waiting_rows (response.Query tag fields rows) = record { fields = fields; rows = rows }
waiting_rows (response.Execution tag) = record { fields = []; rows = [] }
