-- What every message of the program is: its texts are UTF-8, and its numbers fit.
use Rattle.std.specs.Prelude.{ℕ, List, ◌<◌, ◌^◌, FitsSigned, IsUtf8}
use Rattle.std.specs.List.{AllByRecursion}
use Rattle.std.specs.Int.{w32}
use Rattle.pgw_wire.specs.Keys.{IsKey}
use Rattle.pgw_wire.specs.Sound.{AreTexts}
use Rattle.pgw_startup.specs.declared.authentication.Authentication.{Authentication}
use Rattle.pgw_startup.specs.declared.authentication.Authentication.TheVariants as auth
use Rattle.pgw_startup.specs.declared.parameter_status.ParameterStatus.{ParameterStatus}
use Rattle.pgw_startup.specs.declared.backend_key_data.BackendKeyData.{BackendKeyData}
use Rattle.std.specs.FinMap as map
use Rattle.pgw_startup.specs.declared.startup.Startup.{Startup}
use Rattle.pgw_startup.specs.declared.negotiate.NegotiateProtocolVersion.{NegotiateProtocolVersion}

abbrev pub IsAuthentication : Authentication → Type 0
IsAuthentication auth.Ok = Unit {0}
IsAuthentication auth.KerberosV5 = Unit {0}
IsAuthentication auth.CleartextPassword = Unit {0}
IsAuthentication (auth.MD5Password salt) = Unit {0}
IsAuthentication (auth.SASL methods) = AreTexts methods
IsAuthentication (auth.SASLContinue bytes) = Unit {0}
IsAuthentication (auth.SASLFinal bytes) = Unit {0}

abbrev pub IsParameterStatus : ParameterStatus → Type 0
IsParameterStatus m = IsUtf8 m.name × IsUtf8 m.value

abbrev pub IsBackendKeyData : BackendKeyData → Type 0
IsBackendKeyData m = FitsSigned w32 m.pid × IsKey m.secret_key

abbrev pub IsPair : List ℕ × List ℕ → Type 0
IsPair p = IsUtf8 p.0 × IsUtf8 p.1

abbrev pub IsStartup : Startup → Type 0
IsStartup m =
    (m.protocol_number_major < 2 ^ 16) × (m.protocol_number_minor < 2 ^ 16)
    × AllByRecursion IsPair (map.entries m.parameters)

abbrev pub IsNegotiate : NegotiateProtocolVersion → Type 0
IsNegotiate m = FitsSigned w32 m.newest_minor_protocol × AreTexts m.unsupported_options
