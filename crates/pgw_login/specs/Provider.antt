-- The parameters that a server tells where nothing else is said.
use Rattle.std.specs.Prelude.{ℕ, true, false, List, Some, None, codes}
use Rattle.std.specs.Fmt.{decimal}
use Rattle.std.specs.FinMap as map
use Rattle.pgw_wire.specs.Pairs.{Held}
use Rattle.pgw_login.specs.Client.{LoginClient}
use Rattle.pgw_login.specs.Parameters.{with_switch, with_given, parameter_or_own}
use Rattle.pgw_login.specs.declared.provider.DefaultServerParameterProvider.{DefaultServerParameterProvider as Provider}

abbrev pub default_provider : Provider
default_provider = record {
  server_version = codes "16.6-pgwire-0.41.0";
  server_encoding = codes "UTF8";
  integer_datetimes = true;
  in_hot_standby = false;
  search_path = codes "public";
  is_superuser = true;
  default_transaction_read_only = false;
  scram_iterations = 4096;
  time_zone = codes "Etc/UTC";
  date_style = codes "ISO, YMD";
  interval_style = codes "postgres";
  standard_conforming_strings = true;
  client_encoding = Some (codes "UTF8");
  application_name = None;
  session_authorization = None;
}

abbrev pub with_server : Provider → Held → Held
with_server p held =
    map.insert (with_switch (codes "in_hot_standby") p.in_hot_standby
    (with_switch (codes "integer_datetimes") p.integer_datetimes
    (map.insert (map.insert held (codes "server_version") p.server_version)
    (codes "server_encoding") p.server_encoding)))
    (codes "scram_iterations") (decimal p.scram_iterations)

abbrev pub with_session : Provider → Held → Held
with_session p held =
    with_switch (codes "standard_conforming_strings") p.standard_conforming_strings
    (map.insert (map.insert (map.insert
    (with_switch (codes "default_transaction_read_only") p.default_transaction_read_only
    (with_switch (codes "is_superuser") p.is_superuser
    (map.insert held (codes "search_path") p.search_path)))
    (codes "TimeZone") p.time_zone) (codes "DateStyle") p.date_style) (codes "IntervalStyle")
    p.interval_style)

-- what is not set is the client's own
abbrev pub with_client : Provider → Held → Held → Held
with_client p metadata held =
    with_given (codes "session_authorization")
    (parameter_or_own p.session_authorization (map.get metadata (codes "user")))
    (with_given (codes "application_name")
    (parameter_or_own p.application_name (map.get metadata (codes "application_name")))
    (with_given (codes "client_encoding")
    (parameter_or_own p.client_encoding (map.get metadata (codes "client_encoding"))) held))

abbrev pub default_parameters : Provider → LoginClient → Held
default_parameters p c = with_client p c.metadata (with_session p (with_server p map.empty))
