-- What one query over a link gives.
use Rattle.std.specs.Prelude.{ℕ, List, [], ◌∷◌, Ok}
use Rattle.pgw_config.specs.declared.config.Config.{Config}
use Rattle.pgw_config.specs.Parse.{HasOutcome}
use Rattle.pgw_session.specs.Input.{input_with}
use Rattle.pgw_session.specs.declared.types.Request.TheVariants as request
use Rattle.pgw_session.specs.declared.types.SessionReport.{SessionReport}
use Rattle.pgw_session.specs.Transcript.{Completed}

-- the text gives a configuration, under which a session with this one query is completed by these bytes, with this report
abbrev pub CompletesExample : List ℕ → List ℕ → List ℕ → List ℕ → List ℕ → SessionReport → Type 0
CompletesExample text sql nonce taken sent report =
    (config : Config) × HasOutcome text (Ok config)
    × Completed (input_with config (request.Simple sql ∷ []) nonce) taken sent report
