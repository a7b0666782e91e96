-- The table of requests: what each sends, and what it takes.
use Rattle.std.specs.Prelude.{ℕ, pos, Bool, true, false, List, [], ◌∷◌, Option, Some, None}
use Rattle.pgw_backend.specs.declared.backend.PgWireBackendMessage.{PgWireBackendMessage as Backend}
use Rattle.pgw_backend.specs.declared.backend.PgWireBackendMessage.TheVariants as backend
use Rattle.pgw_backend.specs.Asynchronous.{is_asynchronous}
use Rattle.pgw_frontend.specs.declared.frontend.PgWireFrontendMessage.{PgWireFrontendMessage as Frontend}
use Rattle.pgw_frontend.specs.declared.frontend.PgWireFrontendMessage.TheVariants as frontend
use Rattle.pgw_session.specs.declared.types.Target.TheVariants.{Statement, Portal}
use Rattle.pgw_session.specs.declared.types.Request.{Request}
use Rattle.pgw_session.specs.declared.types.Request.TheVariants.{Simple, Prepare, Bind, Execute, Describe, Close, Query}
use Rattle.pgw_session.specs.declared.stage.Role.{Role}
use Rattle.pgw_session.specs.declared.stage.Role.TheVariants.{Taken, Closing, Completing, Failing, Misplaced}
use Rattle.pgw_session.specs.declared.stage.Kind.{Kind}
use Rattle.pgw_session.specs.declared.stage.Kind.TheVariants as kind

abbrev pub kind_of : Request → Kind
kind_of (Simple query) = kind.Simple
kind_of (Prepare name query types) = kind.Prepare
kind_of (Bind portal statement parameters formats) = kind.Bind
kind_of (Execute portal max_rows) = kind.Execute
kind_of (Describe (Statement name)) = kind.DescribeStatement
kind_of (Describe (Portal name)) = kind.DescribePortal
kind_of (Close target) = kind.Close
kind_of (Query query types parameters) = kind.Query

-- ---- sends

abbrev pub sync : Frontend
sync = frontend.Sync (record {})

abbrev pub flush : Frontend
flush = frontend.Flush (record {})

-- S is a statement, P a portal
abbrev pub describe_statement : Option (List ℕ) → Frontend
describe_statement name = frontend.Describe (record { target_type = 83; name = name })

abbrev pub sends_of : Request → List Frontend
sends_of (Simple query) = frontend.Query (record { query = query }) ∷ []
sends_of (Prepare name query types) =
    frontend.Parse (record { name = name; query = query; type_oids = types }) ∷ describe_statement
    name ∷ sync ∷ []
sends_of (Bind portal statement parameters formats) =
    frontend.Bind (record {
      portal_name = portal;
      statement_name = statement;
      parameter_format_codes = [];
      parameters = parameters;
      result_column_format_codes = formats;
    }) ∷ flush ∷ []
sends_of (Execute portal max_rows) =
    frontend.Execute (record { name = portal; max_rows = max_rows }) ∷ flush ∷ []
sends_of (Describe (Statement name)) = describe_statement name ∷ sync ∷ []
sends_of (Describe (Portal name)) =
    frontend.Describe (record { target_type = 80; name = name }) ∷ flush ∷ []
sends_of (Close (Statement name)) =
    frontend.Close (record { target_type = 83; name = name }) ∷ sync ∷ []
sends_of (Close (Portal name)) =
    frontend.Close (record { target_type = 80; name = name }) ∷ sync ∷ []
sends_of (Query query types parameters) =
    frontend.Parse (record { name = None; query = query; type_oids = types })
    ∷ frontend.Bind (record {
      portal_name = None;
      statement_name = None;
      parameter_format_codes = [];
      parameters = parameters;
      result_column_format_codes = [];
    })
    ∷ frontend.Execute (record { name = None; max_rows = pos 0 }) ∷ sync ∷ []

-- what is sent right behind an error: Sync, where the opening has none and the server awaits it
abbrev pub behind_error : Kind → Option Frontend
behind_error kind.Bind = Some sync
behind_error kind.Execute = Some sync
behind_error kind.DescribePortal = Some sync
behind_error k = None

-- behind a message without a place all are taken up to ReadyForQuery, before it is answered
abbrev pub passes_over : Kind → Bool
passes_over kind.Simple = true
passes_over k = false

-- ---- takes

-- what has no place in a row is taken where it may come at any time
abbrev pub anywhere : Bool → Bool → Role
anywhere true rows = Taken rows
anywhere false rows = Misplaced

-- Rows come behind a description alone in a simple query.
abbrev pub role : Kind → Bool → Backend → Role
role k rows (backend.ErrorResponse m) = Failing
role kind.Simple rows (backend.RowDescription m) = Taken true
role kind.Simple true (backend.DataRow m) = Taken true
role kind.Simple rows (backend.CommandComplete m) = Taken false
role kind.Simple rows (backend.EmptyQueryResponse m) = Taken rows
role kind.Simple rows (backend.ReadyForQuery m) = Closing
role kind.Prepare rows (backend.ParseComplete m) = Taken rows
role kind.Prepare rows (backend.ParameterDescription m) = Taken rows
role kind.Prepare rows (backend.RowDescription m) = Taken rows
role kind.Prepare rows (backend.NoData m) = Taken rows
role kind.Prepare rows (backend.ReadyForQuery m) = Closing
role kind.Bind rows (backend.BindComplete m) = Closing
role kind.Execute rows (backend.DataRow m) = Taken rows
role kind.Execute rows (backend.PortalSuspended m) = Closing
role kind.Execute rows (backend.CommandComplete m) = Completing
role kind.Execute rows (backend.EmptyQueryResponse m) = Completing
role kind.DescribeStatement rows (backend.ParameterDescription m) = Taken rows
role kind.DescribeStatement rows (backend.RowDescription m) = Taken rows
role kind.DescribeStatement rows (backend.NoData m) = Taken rows
role kind.DescribeStatement rows (backend.ReadyForQuery m) = Closing
role kind.DescribePortal rows (backend.ParameterDescription m) = Taken rows
role kind.DescribePortal rows (backend.RowDescription m) = Closing
role kind.DescribePortal rows (backend.NoData m) = Closing
role kind.DescribePortal rows (backend.ReadyForQuery m) = Closing
role kind.Close rows (backend.CloseComplete m) = Taken rows
role kind.Close rows (backend.ReadyForQuery m) = Closing
role kind.Query rows (backend.ParseComplete m) = Taken rows
role kind.Query rows (backend.BindComplete m) = Taken rows
role kind.Query rows (backend.DataRow m) = Taken rows
role kind.Query rows (backend.CommandComplete m) = Taken rows
role kind.Query rows (backend.EmptyQueryResponse m) = Taken rows
role kind.Query rows (backend.ReadyForQuery m) = Closing
role k rows m = anywhere (is_asynchronous m) rows
