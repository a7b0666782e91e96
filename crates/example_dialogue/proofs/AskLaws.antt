-- What one query over a link gives.
use Rattle.std.proofs.Common.{◌≡◌, ℕ, List, [], ◌∷◌, Result, Ok, Err, subst, sym}
use Rattle.std.specs.Prelude.{IfOk}
use Rattle.pgw_types.specs.declared.config_error.ConfigError.{ConfigError}
use Rattle.pgw_backend.specs.declared.client_error.PgWireClientError.{PgWireClientError as ClientError}
use Rattle.pgw_config.specs.declared.config.Config.{Config}
use Rattle.pgw_config.specs.Parse.{IsParsed}
use Rattle.pgw_link.specs.Tape.{Tape, MovedBy}
use Rattle.pgw_session.specs.Input.{input_with}
use Rattle.pgw_session.specs.declared.types.Request.{Request}
use Rattle.pgw_session.specs.declared.types.Request.TheVariants as request
use Rattle.pgw_session.specs.declared.types.SessionReport.{SessionReport}
use Rattle.pgw_session.specs.Transcript.{Completed}
use Rattle.example_dialogue.specs.Ask.{CompletesExample}

-- a session of the one query, under the configuration that the text gave
pub asked_of : (r : Result SessionReport ClientError) (old new : Tape) (text sql nonce : List ℕ) (config : Config)
    (parsed : Result Config ConfigError) (first : Request)
    → parsed ≡ Ok config → IsParsed text parsed → first ≡ request.Simple sql
    → IfOk r (λ report. MovedBy old new
    (λ taken sent. Completed (input_with config (first ∷ []) nonce) taken sent report))
    → IfOk r (λ report. MovedBy old new (λ taken sent. CompletesExample text sql nonce taken sent report))
asked_of (Ok report) old new text sql nonce config parsed first is p one done =
    let gives : IsParsed text (Ok config) = subst (IsParsed text) is p in (
      done.0,
      done.1,
      done.2,
      done.3,
      (
        config,
        gives,
        subst (λ q. Completed (input_with config (q ∷ []) nonce) done.0 done.1 report) one
            done.4,
      ),
    )
asked_of (Err e) old new text sql nonce config parsed first is p one done = tt
