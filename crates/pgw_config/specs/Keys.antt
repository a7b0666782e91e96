-- The keys of a connection text.
use Rattle.std.specs.Prelude.{ℕ, List, Bool, Option, Some, None, codes, nat_eq, if◌then◌else◌}
use Rattle.std.specs.Cmp.Lexicographic.{pointwise}
use Rattle.pgw_config.specs.declared.keys.Key.{Key}
use Rattle.pgw_config.specs.declared.keys.Key.TheVariants as key
use Rattle.pgw_config.specs.declared.keys.TextKey.{TextKey}
use Rattle.pgw_config.specs.declared.keys.TextKey.TheVariants as text
use Rattle.pgw_config.specs.declared.keys.ChoiceKey.{ChoiceKey}
use Rattle.pgw_config.specs.declared.keys.ChoiceKey.TheVariants as choice
use Rattle.pgw_config.specs.declared.keys.ListKey.{ListKey}
use Rattle.pgw_config.specs.declared.keys.ListKey.TheVariants as list
use Rattle.pgw_config.specs.declared.keys.NumberKey.{NumberKey}
use Rattle.pgw_config.specs.declared.keys.NumberKey.TheVariants as number

-- a text is this word
abbrev pub is : List ℕ → List ℕ → Bool
is text word = pointwise nat_eq text word

unfoldable pub text_key : List ℕ → Option TextKey
text_key name =
    if is name (codes "user") then Some text.User
    else if is name (codes "password") then Some text.Password
    else if is name (codes "dbname") then Some text.Dbname
    else if is name (codes "options") then Some text.Options
    else if is name (codes "application_name") then Some text.ApplicationName
    else None

unfoldable pub choice_key : List ℕ → Option ChoiceKey
choice_key name =
    if is name (codes "sslmode") then Some choice.SslMode
    else if is name (codes "sslnegotiation") then Some choice.SslNegotiation
    else if is name (codes "target_session_attrs") then Some choice.TargetSessionAttrs
    else if is name (codes "channel_binding") then Some choice.ChannelBinding
    else if is name (codes "load_balance_hosts") then Some choice.LoadBalanceHosts
    else None

unfoldable pub list_key : List ℕ → Option ListKey
list_key name =
    if is name (codes "host") then Some list.Host
    else if is name (codes "hostaddr") then Some list.HostAddr
    else if is name (codes "port") then Some list.Port
    else None

unfoldable pub number_key : List ℕ → Option NumberKey
number_key name =
    if is name (codes "connect_timeout") then Some number.ConnectTimeout
    else if is name (codes "tcp_user_timeout") then Some number.TcpUserTimeout
    else if is name (codes "keepalives") then Some number.Keepalives
    else if is name (codes "keepalives_idle") then Some number.KeepalivesIdle
    else if is name (codes "keepalives_interval") then Some number.KeepalivesInterval
    else if is name (codes "keepalives_retries") then Some number.KeepalivesRetries
    else None

-- this key, or else what the rest says
abbrev pub kind_or : {A : Type 0} → (A → Key) → Option A → Option Key → Option Key
kind_or make None rest = rest
kind_or make (Some key) rest = Some (make key)

unfoldable pub setting_key : List ℕ → Option Key
setting_key name =
    kind_or key.Text (text_key name)
    (kind_or key.Choice (choice_key name)
    (kind_or key.List (list_key name)
    (kind_or key.Number (number_key name) None)))
