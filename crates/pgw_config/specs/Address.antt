-- Where a configuration connects to.
use Rattle.std.specs.Prelude.{ℕ, ◌-◌, List, [], ◌∷◌, ◌++◌, length, codes, Result, Ok, Err, ◌==◌, ◌||◌, if◌then◌else◌, slice_index}
use Rattle.std.specs.Fmt.{decimal}
use Rattle.pgw_types.specs.declared.config_error.ConfigError.{ConfigError}
use Rattle.pgw_types.specs.declared.config_error.ConfigError.TheVariants.{InvalidConfig}
use Rattle.pgw_config.specs.declared.config.Config.{Config}
use Rattle.pgw_types.specs.declared.address.Host.{Host}
use Rattle.pgw_types.specs.declared.address.Host.TheVariants as host
use Rattle.pgw_types.specs.declared.address.HostAddr.{HostAddr}
use Rattle.pgw_types.specs.declared.address.Address.{Address}
use Rattle.pgw_types.specs.declared.address.Address.TheVariants as address

abbrev pub first_port : List ℕ → ℕ
first_port [] = 5432
first_port (port ∷ more) = port

-- a directory that is empty or ends with a slash takes no further one
abbrev pub slash_after : List ℕ → List ℕ
slash_after directory =
    if length directory == 0 || slice_index directory (length directory - 1) == 47 then codes ""
    else codes "/"

-- the file of a server's socket in a directory
abbrev pub socket : List ℕ → ℕ → List ℕ
socket directory port = directory ++ slash_after directory ++ codes ".s.PGSQL." ++ decimal port

abbrev pub address_at : ℕ → Host → Address
address_at port (host.Tcp name) = address.Host name port
address_at port (host.Unix directory) = address.Unix (socket directory port)

abbrev pub first_host : ℕ → List Host → Result Address ConfigError
first_host port [] = Err (InvalidConfig (codes "host"))
first_host port (host ∷ more) = Ok (address_at port host)

abbrev pub first_address : ℕ → List HostAddr → List Host → Result Address ConfigError
first_address port [] hosts = first_host port hosts
first_address port (addr ∷ more) hosts = Ok (address.Ip addr port)

-- the first address, else the first host, at the first port
abbrev pub address_of : Config → Result Address ConfigError
address_of config = first_address (first_port config.port) config.hostaddr config.host
