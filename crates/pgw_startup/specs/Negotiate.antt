-- Which version a server offers.
use Rattle.std.specs.Prelude.{ℕ, ℤ, pos, negsuc, ◌/◌, ◌%◌, ◌==◌, Option, Some, None, nat_lt, if◌then◌else◌}
use Rattle.pgw_types.specs.declared.context.ProtocolVersion.{ProtocolVersion}
use Rattle.pgw_types.specs.declared.context.ProtocolVersion.TheVariants.{PROTOCOL3_0, PROTOCOL3_2}

-- of major version 3: minor versions 0 and 1 are read as 3.0, later ones as 3.2
abbrev pub known_version : ℕ → ℕ → Option ProtocolVersion
known_version major minor =
    if major == 3 then (if nat_lt minor 2 then Some PROTOCOL3_0 else Some PROTOCOL3_2) else None

-- a number above 65535 holds the major version too; a smaller one is a minor version of 3
unfoldable pub negotiated_version : ℤ → Option ProtocolVersion
negotiated_version (negsuc n) = None
negotiated_version (pos n) =
    if nat_lt 65535 n then known_version (n / 65536) (n % 65536) else known_version 3 n
