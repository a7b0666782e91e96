-- What a whole connection text gives: of each key the last value, of a time the last one above zero, and what stands in
-- all lists, in order.
use Rattle.std.specs.Prelude.{◌≡◌, ℕ, zero, suc, ℤ, pos, negsuc, List, [], ◌∷◌, Bool, true, not, ◌==◌, codes, Option, Some, None, unwrap_or, if◌then◌else◌}
use Rattle.std.specs.List.{filter_map, flat_map}
use Rattle.pgw_types.specs.Numbers.{number_in}
use Rattle.pgw_types.specs.Marks.{pieces_at}
use Rattle.pgw_config_text.specs.declared.part.Part.{Part}
use Rattle.pgw_config_text.specs.declared.part.Part.TheVariants as part
use Rattle.pgw_config.specs.Choices.{ssl_mode_of, ssl_negotiation_of, target_of_word, channel_binding_of, load_balance_of}
use Rattle.pgw_config.specs.Config.{host_named}
use Rattle.pgw_config.specs.HostAddr.{addr_of}
use Rattle.pgw_config.specs.Keys.{is}
use Rattle.pgw_config.specs.Lists.{hosts_of, port_of}
use Rattle.pgw_config.specs.Numbers.{signed_in}
use Rattle.pgw_config.specs.Pieces.{all_read}
use Rattle.pgw_config.specs.declared.config.Config.{Config}
use Rattle.pgw_types.specs.declared.address.Host.{Host}
use Rattle.pgw_types.specs.declared.address.HostAddr.{HostAddr}
use Rattle.pgw_config.specs.declared.config.SslMode.TheVariants as ssl_mode
use Rattle.pgw_config.specs.declared.config.SslNegotiation.TheVariants as ssl_negotiation
use Rattle.pgw_config.specs.declared.config.TargetSessionAttrs.TheVariants as target
use Rattle.pgw_config.specs.declared.config.ChannelBinding.TheVariants as channel_binding
use Rattle.pgw_config.specs.declared.config.LoadBalanceHosts.TheVariants as load_balance
use Rattle.pgw_types.specs.declared.context.ProtocolVersion.TheVariants.{PROTOCOL3_0}

-- the last element, if there is one
abbrev pub last_of : {A : Type 0} → List A → Option A
last_of [] = None
last_of (x ∷ xs) = Some (unwrap_or (last_of xs) x)

-- ---- the values of a key

-- the value of a pair whose key is this word
abbrev pub value_for : List ℕ → Part → Option (List ℕ)
value_for word (part.Pair name value) = if is name word then Some value else None
value_for word (part.Host name) = None
value_for word (part.Password password) = None

abbrev pub part_values : List ℕ → List Part → List (List ℕ)
part_values word parts = filter_map (value_for word) parts

-- a password, of a pair or of a URL's credentials
abbrev pub password_in_part : Part → Option (List ℕ)
password_in_part (part.Pair name value) = value_for (codes "password") (part.Pair name value)
password_in_part (part.Host name) = None
password_in_part (part.Password password) = Some password

-- ---- what a value writes

abbrev pub above_zero : Option ℤ → Option ℕ
above_zero None = None
above_zero (Some (pos zero)) = None
above_zero (Some (pos (suc n))) = Some (suc n)
above_zero (Some (negsuc n)) = None

-- a time above zero
abbrev pub time_in : List ℕ → Option ℕ
time_in value = above_zero (signed_in value)

abbrev pub is_not_zero : Option ℕ → Option Bool
is_not_zero None = None
is_not_zero (Some n) = Some (not (n == 0))

-- a switch is off at zero
abbrev pub switch_in : List ℕ → Option Bool
switch_in value = is_not_zero (number_in 64 value)

-- ---- lists

abbrev pub hosts_in_part : Part → List Host
hosts_in_part (part.Pair name value) =
    if is name (codes "host") then hosts_of (pieces_at 44 value) else []
hosts_in_part (part.Host name) = host_named name ∷ []
hosts_in_part (part.Password password) = []

abbrev pub hostaddrs_in : Part → List HostAddr
hostaddrs_in (part.Pair name value) =
    if is name (codes "hostaddr") then unwrap_or (all_read addr_of (pieces_at 44 value)) [] else
    []
hostaddrs_in (part.Host name) = []
hostaddrs_in (part.Password password) = []

abbrev pub ports_in : Part → List ℕ
ports_in (part.Pair name value) =
    if is name (codes "port") then unwrap_or (all_read port_of (pieces_at 44 value)) [] else []
ports_in (part.Host name) = []
ports_in (part.Password password) = []

-- ---- the whole

-- what the values of a key write, the last one
abbrev pub last_in : {A : Type 0} → (List ℕ → Option A) → List ℕ → List Part → Option A
last_in read word parts = last_of (filter_map read (part_values word parts))

-- the configuration that these parts give
pub record GivesConfig (parts : List Part) (config : Config) : Type 0 where
  pub user : config.user ≡ last_of (part_values (codes "user") parts)
  pub password : config.password ≡ last_of (filter_map password_in_part parts)
  pub dbname : config.dbname ≡ last_of (part_values (codes "dbname") parts)
  pub options : config.options ≡ last_of (part_values (codes "options") parts)
  pub application_name : config.application_name ≡ last_of
      (part_values (codes "application_name") parts)
  pub ssl_mode : config.ssl_mode ≡ unwrap_or (last_in ssl_mode_of (codes "sslmode") parts)
      ssl_mode.Prefer
  pub ssl_negotiation : config.ssl_negotiation ≡ unwrap_or
      (last_in ssl_negotiation_of (codes "sslnegotiation") parts) ssl_negotiation.Postgres
  pub host : config.host ≡ flat_map hosts_in_part parts
  pub hostaddr : config.hostaddr ≡ flat_map hostaddrs_in parts
  pub port : config.port ≡ flat_map ports_in parts
  pub connect_timeout : config.connect_timeout ≡ last_in time_in (codes "connect_timeout") parts
  pub tcp_user_timeout : config.tcp_user_timeout ≡ last_in time_in (codes "tcp_user_timeout")
      parts
  pub keepalives : config.keepalives ≡ unwrap_or (last_in switch_in (codes "keepalives") parts)
      true
  pub keepalives_idle : config.keepalives_idle ≡ unwrap_or
      (last_in time_in (codes "keepalives_idle") parts) 7200
  pub keepalives_interval : config.keepalives_interval ≡ last_in time_in
      (codes "keepalives_interval") parts
  pub keepalives_retries : config.keepalives_retries ≡ last_in (number_in 32)
      (codes "keepalives_retries") parts
  pub target_session_attrs : config.target_session_attrs ≡ unwrap_or
      (last_in target_of_word (codes "target_session_attrs") parts) target.Any
  pub channel_binding : config.channel_binding ≡ unwrap_or
      (last_in channel_binding_of (codes "channel_binding") parts) channel_binding.Prefer
  pub certificate_hash : config.certificate_hash ≡ None
  pub load_balance_hosts : config.load_balance_hosts ≡ unwrap_or
      (last_in load_balance_of (codes "load_balance_hosts") parts) load_balance.Disable
  pub protocol_version : config.protocol_version ≡ PROTOCOL3_0
