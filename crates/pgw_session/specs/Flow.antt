-- What a server may answer to a client, in the words of the PostgreSQL documentation (Message Flow: Simple Query,
-- Extended Query, Asynchronous Operations). Not part of the claim: words of the laws on the table of requests.
use Rattle.std.specs.Prelude.{◌≡◌, ℕ, suc, pos, Bool, true, false, not, if◌then◌else◌, ◌||◌, ◌&&◌, ◌==◌, List, [], ◌∷◌, ◌++◌, Option, Some, None}
use Rattle.std.specs.List.{list_any}
use Rattle.std.specs.Ordering.{int_eq}
use Rattle.pgw_backend.specs.Asynchronous.{is_asynchronous}
use Rattle.pgw_backend.specs.declared.backend.PgWireBackendMessage.{PgWireBackendMessage as Backend}
use Rattle.pgw_backend.specs.declared.backend.PgWireBackendMessage.TheVariants as backend
use Rattle.pgw_frontend.specs.declared.frontend.PgWireFrontendMessage.{PgWireFrontendMessage as Frontend}
use Rattle.pgw_frontend.specs.declared.frontend.PgWireFrontendMessage.TheVariants as frontend
use Rattle.pgw_query.specs.declared.data.RowDescription.{RowDescription}
use Rattle.pgw_session.specs.declared.types.Target.TheVariants.{Portal}
use Rattle.pgw_session.specs.declared.types.Request.{Request}
use Rattle.pgw_session.specs.declared.types.Request.TheVariants as request
use Rattle.pgw_session.specs.declared.stage.Role.{Role}
use Rattle.pgw_session.specs.declared.stage.Role.TheVariants.{Closing, Completing, Failing, Misplaced}
use Rattle.pgw_session.specs.Events.{Event, Sent, Got}
use Rattle.pgw_session.specs.Stays.{IsUnready}
use Rattle.pgw_session.specs.Requests.{sends_of}
use Rattle.pgw_session.specs.Segments.{is_ready}

-- ---- which messages

-- in place of each answer
abbrev pub is_error : Backend → Bool
is_error (backend.ErrorResponse m) = true
is_error m = false

-- an answer to this message of the client's, who takes part in no COPY; S, which is 83, is a statement
abbrev pub is_answer_to : Backend → Frontend → Bool
is_answer_to (backend.RowDescription m) (frontend.Query f) = true
is_answer_to (backend.DataRow m) (frontend.Query f) = true
is_answer_to (backend.CommandComplete m) (frontend.Query f) = true
is_answer_to (backend.EmptyQueryResponse m) (frontend.Query f) = true
is_answer_to (backend.ReadyForQuery m) (frontend.Query f) = true
is_answer_to (backend.ParseComplete m) (frontend.Parse f) = true
is_answer_to (backend.BindComplete m) (frontend.Bind f) = true
is_answer_to (backend.ParameterDescription m) (frontend.Describe f) = f.target_type == 83
is_answer_to (backend.RowDescription m) (frontend.Describe f) = true
is_answer_to (backend.NoData m) (frontend.Describe f) = true
is_answer_to (backend.DataRow m) (frontend.Execute f) = true
is_answer_to (backend.CommandComplete m) (frontend.Execute f) = true
is_answer_to (backend.EmptyQueryResponse m) (frontend.Execute f) = true
is_answer_to (backend.PortalSuspended m) (frontend.Execute f) = not (int_eq f.max_rows (pos 0))
is_answer_to (backend.CloseComplete m) (frontend.Close f) = true
is_answer_to (backend.ReadyForQuery m) (frontend.Sync f) = true
is_answer_to m f = false

-- Beyond that this client takes PortalSuspended where all rows of a portal were asked for, and ParameterDescription and
-- ReadyForQuery where a portal is described.
abbrev pub is_taken_besides : Request → Backend → Bool
is_taken_besides (request.Execute portal max_rows) (backend.PortalSuspended m) = true
is_taken_besides (request.Describe (Portal name)) (backend.ParameterDescription m) = true
is_taken_besides (request.Describe (Portal name)) (backend.ReadyForQuery m) = true
is_taken_besides q m = false

-- in a simple query a row comes behind a description alone
abbrev pub is_row_without : Request → Bool → Backend → Bool
is_row_without (request.Simple query) false (backend.DataRow m) = true
is_row_without q described m = false

-- what may come at any time, an error, or an answer
abbrev pub may_come : Request → Bool → Backend → Bool
may_come q described m =
    not (is_row_without q described m)
    && (is_taken_besides q m ||
    (is_asynchronous m || (is_error m || list_any (is_answer_to m) (sends_of q))))

-- a message that is taken, or ends the answer
abbrev pub is_placed : Role → Bool
is_placed Misplaced = false
is_placed r = true

-- ---- what a message does to the answer

-- the message asks for a ReadyForQuery
abbrev pub asks_for_ready : Frontend → Bool
asks_for_ready (frontend.Query f) = true
asks_for_ready (frontend.Sync f) = true
asks_for_ready f = false

-- the request sends such a message, and not Flush in its place
abbrev pub awaits_ready : Request → Bool
awaits_ready q = list_any asks_for_ready (sends_of q)

-- the last answer to this message of the client's; an Execute whose portal is completed has another, which is below
abbrev pub is_last_answer_to : Backend → Frontend → Bool
is_last_answer_to (backend.ParseComplete m) (frontend.Parse f) = true
is_last_answer_to (backend.BindComplete m) (frontend.Bind f) = true
is_last_answer_to (backend.RowDescription m) (frontend.Describe f) = true
is_last_answer_to (backend.NoData m) (frontend.Describe f) = true
is_last_answer_to (backend.PortalSuspended m) (frontend.Execute f) = true
is_last_answer_to (backend.CloseComplete m) (frontend.Close f) = true
is_last_answer_to m f = false

-- The answer ends at ReadyForQuery; where Flush was sent in place of Sync, at the last answer to the message before it.
-- Where a portal is described, this client takes ReadyForQuery too, for the end.
abbrev pub ends_answer : Request → Backend → Bool
ends_answer (request.Describe (Portal name)) (backend.ReadyForQuery m) = true
ends_answer q m =
    if awaits_ready q then is_ready m else list_any (is_last_answer_to m) (sends_of q)

-- A portal that was executed is completed by CommandComplete, or by EmptyQueryResponse where its query was empty.
abbrev pub completes_portal : Request → Backend → Bool
completes_portal (request.Execute portal max_rows) (backend.CommandComplete m) = true
completes_portal (request.Execute portal max_rows) (backend.EmptyQueryResponse m) = true
completes_portal q m = false

-- whether a description stands behind the message: in a simple query RowDescription gives one for the rows up to
-- CommandComplete
abbrev pub is_described_behind : Request → Bool → Backend → Bool
is_described_behind (request.Simple query) described (backend.RowDescription m) = true
is_described_behind (request.Simple query) described (backend.CommandComplete m) = false
is_described_behind q described m = described

-- Behind an error in the extended query a server reads and discards messages until a Sync is reached: so Sync is sent,
-- where neither Query nor Sync was.
abbrev pub sync_behind_error : Request → Option Frontend
sync_behind_error q = if awaits_ready q then None else Some (frontend.Sync (record {}))

abbrev pub is_closing : Role → Bool
is_closing Closing = true
is_closing r = false

abbrev pub is_completing : Role → Bool
is_completing Completing = true
is_completing r = false

abbrev pub is_failing : Role → Bool
is_failing Failing = true
is_failing r = false

-- ---- rows of a simple query

-- no error was got
abbrev pub HasNoError : List Event → Type 0
HasNoError [] = Unit {0}
HasNoError (Got (backend.ErrorResponse m) ∷ es) = ⊥
HasNoError (e ∷ es) = HasNoError es

-- no command was completed
abbrev pub CompletesNone : List Event → Type 0
CompletesNone [] = Unit {0}
CompletesNone (Got (backend.CommandComplete m) ∷ es) = ⊥
CompletesNone (e ∷ es) = CompletesNone es

-- a description was got, and no command was completed since
abbrev pub EndsDescribed : List Event → Type 0
EndsDescribed es =
    (earlier : List Event) × (m : RowDescription) × (since : List Event)
    × (es ≡ earlier ++ Got (backend.RowDescription m) ∷ since) × CompletesNone since

-- ---- how a segment ends

-- the last message of a request's segment: ReadyForQuery, or where Flush was sent in place of Sync, the answer awaited
abbrev pub IsLast : Request → Backend → Type 0
IsLast q (backend.ReadyForQuery m) = Unit {0}
IsLast (request.Bind portal statement parameters formats) (backend.BindComplete m) = Unit {0}
IsLast (request.Execute portal max_rows) (backend.PortalSuspended m) = Unit {0}
IsLast (request.Describe (Portal name)) (backend.RowDescription m) = Unit {0}
IsLast (request.Describe (Portal name)) (backend.NoData m) = Unit {0}
IsLast q m = ⊥

-- events without ReadyForQuery, and the last message
abbrev pub EndsIn : Request → List Event → Type 0
EndsIn q es =
    (before : List Event) × (last : Backend) × (es ≡ before ++ Got last ∷ []) × IsUnready before
    × IsLast q last

-- how many Query and Sync were sent, each of which the server answers with one ReadyForQuery
abbrev pub rounds_asked : List Event → ℕ
rounds_asked [] = 0
rounds_asked (Sent (frontend.Query m) ∷ es) = suc (rounds_asked es)
rounds_asked (Sent (frontend.Sync m) ∷ es) = suc (rounds_asked es)
rounds_asked (e ∷ es) = rounds_asked es

abbrev pub rounds_ended : List Event → ℕ
rounds_ended [] = 0
rounds_ended (Got (backend.ReadyForQuery m) ∷ es) = suc (rounds_ended es)
rounds_ended (e ∷ es) = rounds_ended es

abbrev pub DescribesPortal : Request → Type 0
DescribesPortal (request.Describe (Portal name)) = Unit {0}
DescribesPortal q = ⊥
