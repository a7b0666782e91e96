-- What a server's core does with what waits in it. The proofs carry it, and no public clause cites it.
use Rattle.std.specs.Prelude.{◌≡◌, ◌⊎◌, ◌<◌, ℕ, Bool, true, false, List, [], ◌++◌, length, Option, Some, None, Result, Ok, Err}
use Rattle.pgw_types.specs.declared.error.PgWireError.{PgWireError}
use Rattle.pgw_types.specs.declared.error.PgWireError.TheVariants.{OutOfMemory}
use Rattle.pgw_control.specs.declared.cancel.CancelRequest.{CancelRequest}
use Rattle.pgw_frontend.specs.declared.frontend.PgWireFrontendMessage.{PgWireFrontendMessage as Message}
use Rattle.pgw_backend.specs.declared.backend.PgWireBackendMessage.{PgWireBackendMessage as Backend}
use Rattle.pgw_machine.specs.Course.{Course, Waits, Over, On, Ends}
use Rattle.pgw_machine.specs.Play.{Leads, course_behind}
use Rattle.pgw_login.specs.Acts.{Standing, Answer}
use Rattle.pgw_login_server.specs.Server.{Stage, Refused, Asked, ServerEnding, server_ending, Handles, Steps, serving}
use Rattle.pgw_login_server.specs.Stands.{server_answer_at}
use Rattle.pgw_login_server.specs.declared.connection.ServerPhase.{ServerPhase}
use Rattle.pgw_login_server.specs.declared.connection.ServerPhase.TheVariants.{Waiting, Finished, CancelAsked}

-- nothing is taken behind a refusal, or a request to cancel
abbrev pub is_end : Result ServerPhase PgWireError → Bool
is_end (Ok Waiting) = false
is_end (Ok Finished) = false
is_end (Ok (CancelAsked request)) = true
is_end (Err e) = true

-- a step went on, or ended by a request to cancel, or was refused; or memory ran out before it
abbrev pub StepsServer : (Message → Standing → Standing → List Backend → Answer → Type 0)
    → Message → Stage → Stage → List ℕ → Result (Option CancelRequest) PgWireError → Type 0
StepsServer means m from to put (Ok None) = Steps means from m (On to put)
StepsServer means m from to put (Ok (Some r)) =
    Steps means from m (Ends (server_ending (Asked r) to) put)
StepsServer means m from to put (Err e) =
    Steps means from m (Ends (server_ending (Refused e) to) put)
    ⊎ ((e ≡ OutOfMemory) × (to ≡ from) × (put ≡ []))

abbrev pub DidStep : (Message → Standing → Standing → List Backend → Answer → Type 0) → Message
    → Stage → Stage → List ℕ → List ℕ → Result (Option CancelRequest) PgWireError → Type 0
DidStep means m from to old new answer =
    (put : List ℕ) × (new ≡ old ++ put) × StepsServer means m from to put answer

-- the handler went on, or refused
abbrev pub Heard : (Message → Standing → Standing → List Backend → Answer → Type 0) → Message
    → Stage → Stage → List ℕ → Result (Unit {0}) PgWireError → Type 0
Heard means m from to put (Ok done) = Handles means from m (On to put)
Heard means m from to put (Err e) = Handles means from m (Ends (server_ending (Refused e) to) put)

abbrev pub DidHear : (Message → Standing → Standing → List Backend → Answer → Type 0) → Message
    → Stage → Stage → List ℕ → List ℕ → Result (Unit {0}) PgWireError → Type 0
DidHear means m from to old new answer =
    (put : List ℕ) × (new ≡ old ++ put) × Heard means m from to put answer

-- a place at this stage, with these bytes left and these put out
abbrev pub IsStagePlace : Stage → List ℕ → List ℕ → Course Stage ServerEnding → Type 0
IsStagePlace to left put (Waits stage out pending) = (stage ≡ to) × (out ≡ put) × (pending ≡ left)
IsStagePlace to left put (Over ending out) = (ending.stage ≡ to) × (out ≡ put)

-- all that was whole was taken
abbrev pub ServerTakesAll : (Message → Standing → Standing → List Backend → Answer → Type 0)
    → Stage → List ℕ → Stage → List ℕ → List ℕ → List ℕ → Result ServerPhase PgWireError → Type 0
ServerTakesAll means from bytes to left old new answer =
    (put : List ℕ) × (course : Course Stage ServerEnding) × (new ≡ old ++ put)
    × Leads (serving means) from bytes course × IsStagePlace to left put course
    × (answer ≡ server_answer_at course)

-- where the rest leads to a place, all leads there
abbrev pub Goes : (Message → Standing → Standing → List Backend → Answer → Type 0) → Stage
    → List ℕ → Stage → List ℕ → List ℕ → List ℕ → Type 0
Goes means from bytes to left old new =
    (put : List ℕ) × (new ≡ old ++ put)
    × ((course : Course Stage ServerEnding) → Leads (serving means) to left course → Leads
    (serving means) from bytes (course_behind put course))

-- one message was taken, or there was none
abbrev pub AdvancesServer : (Message → Standing → Standing → List Backend → Answer → Type 0)
    → Stage → List ℕ → Stage → List ℕ → List ℕ → List ℕ → Result (Option ServerPhase) PgWireError
    → Type 0
AdvancesServer means from bytes to left old new (Ok None) =
    Goes means from bytes to left old new × (length left < length bytes)
AdvancesServer means from bytes to left old new (Ok (Some phase)) =
    ServerTakesAll means from bytes to left old new (Ok phase)
AdvancesServer means from bytes to left old new (Err e) =
    ServerTakesAll means from bytes to left old new (Err e)
