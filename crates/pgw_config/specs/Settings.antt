-- What the parts of a connection text do to a configuration.
use Rattle.std.specs.Prelude.{ℕ, List, [], ◌∷◌, ◌++◌, Option, Some, None, Result, Ok, Err}
use Rattle.pgw_types.specs.declared.config_error.ConfigError.{ConfigError}
use Rattle.pgw_types.specs.declared.config_error.ConfigError.TheVariants.{InvalidConfig, UnknownConfig}
use Rattle.pgw_config.specs.Keys.{setting_key}
use Rattle.pgw_config.specs.Choices.{with_choice}
use Rattle.pgw_config.specs.Numbers.{with_number}
use Rattle.pgw_config.specs.Lists.{with_list}
use Rattle.pgw_config.specs.Config.{host_named}
use Rattle.pgw_config.specs.declared.config.Config.{Config}
use Rattle.pgw_config.specs.declared.keys.Key.{Key}
use Rattle.pgw_config.specs.declared.keys.Key.TheVariants as key
use Rattle.pgw_config.specs.declared.keys.TextKey.{TextKey}
use Rattle.pgw_config.specs.declared.keys.TextKey.TheVariants as text
use Rattle.pgw_config_text.specs.declared.part.Part.{Part}
use Rattle.pgw_config_text.specs.declared.part.Part.TheVariants as part

-- a later text replaces an earlier one
abbrev pub with_text : Config → TextKey → List ℕ → Config
with_text config text.User value = record config { user = Some value }
with_text config text.Password value = record config { password = Some value }
with_text config text.Dbname value = record config { dbname = Some value }
with_text config text.Options value = record config { options = Some value }
with_text config text.ApplicationName value = record config { application_name = Some value }

-- the configuration with a value, where the key takes it
abbrev pub value_set : Config → Key → List ℕ → Option Config
value_set config (key.Text k) value = Some (with_text config k value)
value_set config (key.Choice k) value = with_choice config k value
value_set config (key.List k) value = with_list config k value
value_set config (key.Number k) value = with_number config k value

-- a value that the key does not take is refused by the key's name
abbrev pub config_or_invalid : List ℕ → Option Config → Result Config ConfigError
config_or_invalid name None = Err (InvalidConfig name)
config_or_invalid name (Some config) = Ok config

abbrev pub set_by : Config → List ℕ → List ℕ → Option Key → Result Config ConfigError
set_by config name value None = Err (UnknownConfig name)
set_by config name value (Some k) = config_or_invalid name (value_set config k value)

abbrev pub pair_set : Config → List ℕ → List ℕ → Result Config ConfigError
pair_set config name value = set_by config name value (setting_key name)

abbrev pub applied : Config → Part → Result Config ConfigError
applied config (part.Pair name value) = pair_set config name value
applied config (part.Host name) =
    Ok (record config { host = config.host ++ host_named name ∷ [] })
applied config (part.Password password) = Ok (record config { password = Some password })

-- one part after the other, up to the first that is refused
abbrev pub next_applied : (Config → Result Config ConfigError) → Result Config ConfigError
    → Result Config ConfigError
next_applied rest (Ok config) = rest config
next_applied rest (Err e) = Err e

abbrev pub all_applied : Config → List Part → Result Config ConfigError
all_applied config [] = Ok config
all_applied config (p ∷ parts) = next_applied (λ c. all_applied c parts) (applied config p)
