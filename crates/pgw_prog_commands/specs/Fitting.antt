-- What a client answers that is asked whether its server is read-only.
use Rattle.std.specs.Prelude.{◌≡◌, ℕ, List, Bool, Option, Some, None, Result}
use Rattle.pgw_backend.specs.declared.client_error.PgWireClientError.{PgWireClientError as ClientError}
use Rattle.pgw_link.specs.Tape.{Tape}
use Rattle.pgw_session.specs.declared.types.Response.{Response}
use Rattle.pgw_session.specs.Answers.{no_tally}
use Rattle.pgw_handlers_default.specs.Simple.{QueryMeans}
use Rattle.pgw_client_calls.specs.State.{ClientState}
use Rattle.pgw_client_calls.specs.Querying.{Queries}
use Rattle.pgw_prog_commands.specs.declared.targets.Fit.{Fit}
use Rattle.pgw_prog_commands.specs.declared.targets.Fit.TheVariants as fit
use Rattle.pgw_prog_commands.specs.Targets.{question, fit_of}

-- the question was asked as a simple query
abbrev pub AsksPlace : {X : Type 0} → Type 0 → (X → Option (List ℕ)) → (X → Tape) → (X → ℕ) →
    ClientState X → ClientState X → Result (List Response) ClientError → Type 0
AsksPlace foretells left tape faults before after answer =
    Queries foretells left tape faults QueryMeans (record { tally = no_tally }) question
    before after answer

-- Any server will do, and nothing was asked; or it will by its answer.
abbrev pub FitsBy : {X : Type 0} → Type 0 → (X → Option (List ℕ)) → (X → Tape) → (X → ℕ) →
    Option Bool → ClientState X → ClientState X → Fit → Type 0
FitsBy foretells left tape faults None before after how =
    (after ≡ before) × (how ≡ fit.Fits)
FitsBy foretells left tape faults (Some read_only) before after how =
    (answer : Result (List Response) ClientError)
    × AsksPlace foretells left tape faults before after answer × (how ≡ fit_of read_only answer)
