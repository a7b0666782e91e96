-- What a client is asked.
use Rattle.std.proofs.Common.{◌≡◌, ℕ, List, Option, Result, subst}
use Rattle.pgw_backend.specs.declared.client_error.PgWireClientError.{PgWireClientError as ClientError}
use Rattle.pgw_link.specs.Tape.{Tape}
use Rattle.pgw_session.specs.declared.types.Response.{Response}
use Rattle.pgw_session.specs.Answers.{no_tally}
use Rattle.pgw_handlers_default.specs.declared.simple.DefaultSimpleQueryHandler.{DefaultSimpleQueryHandler}
use Rattle.pgw_handlers_default.specs.Simple.{QueryMeans}
use Rattle.pgw_client_calls.specs.State.{ClientState}
use Rattle.pgw_client_calls.specs.Querying.{Queries}
use Rattle.pgw_prog_commands.specs.Targets.{question}
use Rattle.pgw_prog_commands.specs.Fitting.{AsksPlace}

-- a new handler asks
pub asks : {X : Type 0} (foretells : Type 0) (left : X → Option (List ℕ)) (tape : X → Tape) (faults : X → ℕ)
    (handler :
    DefaultSimpleQueryHandler) (before after : ClientState X) (answer : Result (List Response) ClientError)
    → handler ≡ record { tally = no_tally }
    → Queries foretells left tape faults QueryMeans handler question before after answer
    → AsksPlace foretells left tape faults before after answer
asks foretells left tape faults handler before after answer is q = subst (λ (h : DefaultSimpleQueryHandler).
    Queries foretells left tape faults QueryMeans h question before after answer) is q
