-- What a connection text answers.
use Rattle.std.proofs.Common.{◌≡◌, ℕ, List, Option, Some, None, Result, Ok, Err, sym, ap, subst, ◌∙◌}
use Rattle.std.specs.Prelude.{IfOk}
use Rattle.pgw_types.specs.declared.config_error.ConfigError.{ConfigError}
use Rattle.pgw_config_text.specs.declared.part.Cut.{Cut}
use Rattle.pgw_config_text.specs.declared.part.Fault.{Fault}
use Rattle.pgw_config_text.specs.declared.part.Fault.TheVariants as fault
use Rattle.pgw_config_text.specs.Text.{HasCut}
use Rattle.pgw_config.specs.Answers.{IsConfigAnswer}
use Rattle.pgw_config.specs.Config.{no_config}
use Rattle.pgw_config.specs.Parse.{parse_result, outcome_of, HasOutcome, IsParsed}
use Rattle.pgw_config.specs.Settings.{next_applied, all_applied}
use Rattle.pgw_config.specs.Given.{GivesConfig}
use Rattle.pgw_config.proofs.GivenLaws.{gives}
use Rattle.pgw_config.specs.declared.config.Config.{Config}

-- ---- a text has one outcome

pub parsed : (text : List ℕ) (cut : Cut) (result : Result Config ConfigError) → HasCut text cut
    → IsConfigAnswer result (outcome_of cut) → IsParsed text result
parsed text cut (Ok config) has is = (cut, has, is)
parsed text cut (Err e) has is = λ memory. (cut, has, is memory)

pub only : (text : List ℕ) (cut : Cut) (result : Result Config ConfigError)
    → ((other : Cut) → HasCut text other → other ≡ cut) → IsConfigAnswer result (outcome_of cut)
    → (outcome : Result Config ConfigError) → HasOutcome text outcome → IsConfigAnswer result outcome
only text cut result one is outcome (other, has, it) =
    subst (λ (o : Result Config ConfigError). IsConfigAnswer result o) (sym (ap outcome_of (one other has))
    ∙ it) is

-- ---- what it gives

-- a text that gives a configuration has taken all its parts
ended_ok : (e : Option Fault) (d config : Config) → parse_result e d ≡ Ok config → d ≡ config
ended_ok None d config h = cc
ended_ok (Some fault.Syntax) d config h = cc
ended_ok (Some fault.Host) d config h = cc
ended_ok (Some (fault.NotUtf8 bytes)) d config h = cc

all_taken : (e : Option Fault) (r : Result Config ConfigError) (config : Config)
    → next_applied (parse_result e) r ≡ Ok config → r ≡ Ok config
all_taken e (Ok d) config h = ap Ok (ended_ok e d config h)
all_taken e (Err why) config h = cc

pub given : (text : List ℕ) (cut : Cut) (result : Result Config ConfigError)
    → ((other : Cut) → HasCut text other → other ≡ cut) → IsConfigAnswer result (outcome_of cut)
    → IfOk result (λ config. (other : Cut) → HasCut text other → GivesConfig other.parts config)
given text cut (Ok config) one is =
    λ other has. gives other.parts config
    (all_taken other.fault (all_applied no_config other.parts) config (ap outcome_of (one other has) ∙ is))
given text cut (Err e) one is = tt
