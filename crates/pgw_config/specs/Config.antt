-- The configuration with which one begins.
use Rattle.std.specs.Prelude.{ℕ, List, [], None, true, slice_index, ◌==◌, if◌then◌else◌}
use Rattle.pgw_types.specs.declared.context.ProtocolVersion.TheVariants.{PROTOCOL3_0}
use Rattle.pgw_config.specs.declared.config.Config.{Config}
use Rattle.pgw_types.specs.declared.address.Host.{Host}
use Rattle.pgw_types.specs.declared.address.Host.TheVariants.{Tcp, Unix}
use Rattle.pgw_config.specs.declared.config.SslMode.TheVariants as ssl_mode
use Rattle.pgw_config.specs.declared.config.SslNegotiation.TheVariants as ssl_negotiation
use Rattle.pgw_config.specs.declared.config.TargetSessionAttrs.TheVariants as target
use Rattle.pgw_config.specs.declared.config.ChannelBinding.TheVariants as channel_binding
use Rattle.pgw_config.specs.declared.config.LoadBalanceHosts.TheVariants as load_balance

abbrev pub no_config : Config
no_config = record {
  user = None;
  password = None;
  dbname = None;
  options = None;
  application_name = None;
  ssl_mode = ssl_mode.Prefer;
  ssl_negotiation = ssl_negotiation.Postgres;
  host = [];
  hostaddr = [];
  port = [];
  connect_timeout = None;
  tcp_user_timeout = None;
  keepalives = true;
  keepalives_idle = 7200;
  keepalives_interval = None;
  keepalives_retries = None;
  target_session_attrs = target.Any;
  channel_binding = channel_binding.Prefer;
  certificate_hash = None;
  load_balance_hosts = load_balance.Disable;
  protocol_version = PROTOCOL3_0;
}

-- a host's name; one that begins with a slash is the directory of a Unix socket
abbrev pub host_named : List ℕ → Host
host_named name = if slice_index name 0 == 47 then Unix name else Tcp name
