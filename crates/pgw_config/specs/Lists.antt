-- The keys whose value is a list with commas.
use Rattle.std.specs.Prelude.{ℕ, List, ◌++◌, length, map, Option, Some, ◌==◌, if◌then◌else◌}
use Rattle.pgw_types.specs.Numbers.{number_in}
use Rattle.pgw_config.specs.Config.{host_named}
use Rattle.pgw_config.specs.Choices.{with_value}
use Rattle.pgw_types.specs.Marks.{pieces_at}
use Rattle.pgw_config.specs.Pieces.{read_onto}
use Rattle.pgw_config.specs.HostAddr.{addr_of}
use Rattle.pgw_config.specs.declared.config.Config.{Config}
use Rattle.pgw_types.specs.declared.address.Host.{Host}
use Rattle.pgw_config.specs.declared.keys.ListKey.{ListKey}
use Rattle.pgw_config.specs.declared.keys.ListKey.TheVariants as list

abbrev pub hosts_of : List (List ℕ) → List Host
hosts_of names = map host_named names

-- a port; an empty one is the usual one
unfoldable pub port_of : List ℕ → Option ℕ
port_of text = if length text == 0 then Some 5432 else number_in 16 text

-- the configuration with the elements of a list behind those that it has, where each can be read
abbrev pub with_list : Config → ListKey → List ℕ → Option Config
with_list config list.Host value =
    Some (record config { host = config.host ++ hosts_of (pieces_at 44 value) })
with_list config list.HostAddr value =
    with_value (read_onto addr_of config.hostaddr (pieces_at 44 value))
    (λ addrs. record config { hostaddr = addrs })
with_list config list.Port value =
    with_value (read_onto port_of config.port (pieces_at 44 value))
    (λ ports. record config { port = ports })
