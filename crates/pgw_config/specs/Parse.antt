-- What a connection text says.
use Rattle.std.specs.Prelude.{◌≡◌, ◌≢◌, ℕ, List, codes, Option, Some, None, Result, Ok, Err}
use Rattle.pgw_types.specs.declared.config_error.ConfigError.{ConfigError}
use Rattle.pgw_types.specs.declared.config_error.ConfigError.TheVariants.{InvalidConfig, InvalidUtf8ConfigValue, OutOfMemory}
use Rattle.pgw_config_text.specs.declared.part.Cut.{Cut}
use Rattle.pgw_config_text.specs.declared.part.Fault.{Fault}
use Rattle.pgw_config_text.specs.declared.part.Fault.TheVariants as fault
use Rattle.pgw_config_text.specs.Text.{HasCut}
use Rattle.pgw_config.specs.Config.{no_config}
use Rattle.pgw_config.specs.Settings.{next_applied, all_applied}
use Rattle.pgw_config.specs.declared.config.Config.{Config}

-- what a text whose parts end so answers, where no part was refused
abbrev pub parse_result : Option Fault → Config → Result Config ConfigError
parse_result None config = Ok config
parse_result (Some fault.Syntax) config = Err (InvalidConfig (codes "syntax"))
parse_result (Some fault.Host) config = Err (InvalidConfig (codes "host"))
parse_result (Some (fault.NotUtf8 bytes)) config = Err (InvalidUtf8ConfigValue bytes)

-- the first faulty part decides; behind all parts a fault of form
abbrev pub outcome_of : Cut → Result Config ConfigError
outcome_of cut = next_applied (parse_result cut.fault) (all_applied no_config cut.parts)

-- the text is cut into parts that have this outcome
abbrev pub HasOutcome : List ℕ → Result Config ConfigError → Type 0
HasOutcome text outcome = (cut : Cut) × HasCut text cut × (outcome_of cut ≡ outcome)

-- what is answered is the text's outcome, or memory ran out
abbrev pub IsParsed : List ℕ → Result Config ConfigError → Type 0
IsParsed text (Ok config) = HasOutcome text (Ok config)
IsParsed text (Err e) = e ≢ OutOfMemory → HasOutcome text (Err e)
