-- The connection text of variables (libpq, Environment Variables; Connection Strings).
use Rattle.std.specs.Prelude.{◌==◌, ◌||◌, ℕ, List, [], ◌∷◌, ◌++◌, chars, codes, Option, Some, None}
use Rattle.std.specs.Prelude.{if◌then◌else◌}
use Rattle.std.specs.List.{flat_map}
use Rattle.std.specs.Char.{encode_utf8}
use Rattle.pgw_config_environment.specs.declared.variables.Variables.{Variables}

-- a backslash stands before a quote and before a backslash
unfoldable pub quoted_character : ℕ → List ℕ
quoted_character c =
    if (c == 39) || (c == 92) then 92 ∷ encode_utf8 c else encode_utf8 c

-- KEY='VALUE' and a blank
abbrev pub variable_pair : List ℕ → List ℕ → List ℕ
variable_pair key value =
    key ++ codes "='" ++ flat_map quoted_character (chars value) ++ codes "' "

-- a variable that is empty is none
unfoldable pub variable_text : List ℕ → Option (List ℕ) → List ℕ
variable_text key None = []
variable_text key (Some []) = []
variable_text key (Some (byte ∷ value)) = variable_pair key (byte ∷ value)

-- a pair for each variable that is set: where to connect to,
abbrev pub place_text : Variables → List ℕ
place_text v = variable_text (codes "host") v.host ++ variable_text (codes "hostaddr") v.hostaddr
    ++ variable_text (codes "port") v.port

-- who connects,
abbrev pub user_text : Variables → List ℕ
user_text v = variable_text (codes "user") v.user ++ variable_text (codes "dbname") v.database
    ++ variable_text (codes "password") v.password
    ++ variable_text (codes "application_name") v.application_name

-- and what is demanded of the connection
abbrev pub demands_text : Variables → List ℕ
demands_text v = variable_text (codes "sslmode") v.sslmode
    ++ variable_text (codes "channel_binding") v.channel_binding
    ++ variable_text (codes "connect_timeout") v.connect_timeout
    ++ variable_text (codes "target_session_attrs") v.target_session_attrs

abbrev pub variables_text : Variables → List ℕ
variables_text v = place_text v ++ user_text v ++ demands_text v
