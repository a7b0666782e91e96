-- What a server says at login.
use Rattle.std.specs.Prelude.{◌≡◌, ℕ, Bool, not, ◌||◌, List, [], ◌∷◌, ◌++◌, length, Option, None, Result, Ok, Err, nat_lt, ◌==◌, if◌then◌else◌}
use Rattle.std.specs.List.{list_any, flat_map}
use Rattle.std.specs.Int.{w32, cast_signed}
use Rattle.pgw_types.specs.declared.error.PgWireError.{PgWireError}
use Rattle.pgw_types.specs.declared.error.PgWireError.TheVariants.{InvalidAuthenticationMessageCode}
use Rattle.pgw_types.specs.declared.context.DecodeContext.{DecodeContext}
use Rattle.pgw_types.specs.declared.context.ProtocolVersion.{ProtocolVersion}
use Rattle.pgw_wire.specs.Reading.{◌>>=◌, nat_at, int_at, text_at, name_at, octets_at, rest_at, all_of, marked_list_at}
use Rattle.pgw_wire.specs.Formats.{pair_at, Pair, made_at, tried_at, counted_at, SpellsText, SpellsNat, SpellsInt, SpellsOctets, SpellsName, SpellsCounted, SpellsMarked}
use Rattle.pgw_wire.specs.Writing.{text, i32, u32, has_zero, refused_if}
use Rattle.pgw_wire.specs.Keys.{key_of, SpellsKey, key_bytes}
use Rattle.pgw_startup.specs.declared.authentication.Authentication.{Authentication}
use Rattle.pgw_startup.specs.declared.authentication.Authentication.TheVariants as auth
use Rattle.pgw_startup.specs.declared.parameter_status.ParameterStatus.{ParameterStatus}
use Rattle.pgw_startup.specs.declared.backend_key_data.BackendKeyData.{BackendKeyData}
use Rattle.pgw_startup.specs.declared.negotiate.NegotiateProtocolVersion.{NegotiateProtocolVersion}

-- ---- Authentication

-- what follows each code
unfoldable pub by_code : ℕ → List ℕ → Result (Authentication × List ℕ) PgWireError
by_code code bytes =
    if code == 0 then Ok (auth.Ok, bytes)
    else (if code == 2 then Ok (auth.KerberosV5, bytes)
    else (if code == 3 then Ok (auth.CleartextPassword, bytes)
    else (if code == 5 then made_at auth.MD5Password (octets_at 4) bytes
    else (if code == 10 then made_at auth.SASL (marked_list_at name_at) bytes
    else (if code == 11 then made_at auth.SASLContinue rest_at bytes
    else (if code == 12 then made_at auth.SASLFinal rest_at bytes
    else Err (InvalidAuthenticationMessageCode (cast_signed w32 code))))))))

unfoldable pub authentication_of : DecodeContext → List ℕ → Result Authentication PgWireError
authentication_of ctx bytes = all_of (do
  code ← nat_at w32 bytes
  by_code code.0 code.1)

abbrev pub authentication_code : Authentication → ℕ
authentication_code auth.Ok = 0
authentication_code auth.KerberosV5 = 2
authentication_code auth.CleartextPassword = 3
authentication_code (auth.MD5Password salt) = 5
authentication_code (auth.SASL methods) = 10
authentication_code (auth.SASLContinue bytes) = 11
authentication_code (auth.SASLFinal bytes) = 12

-- what follows the code: a salt of four bytes, names of methods up to an empty one, or all that is left
abbrev pub SpellsAfter : Authentication → List ℕ → Type 0
SpellsAfter auth.Ok rest = rest ≡ []
SpellsAfter auth.KerberosV5 rest = rest ≡ []
SpellsAfter auth.CleartextPassword rest = rest ≡ []
SpellsAfter (auth.MD5Password salt) rest = SpellsOctets 4 salt rest
SpellsAfter (auth.SASL methods) rest = SpellsMarked SpellsName methods rest
SpellsAfter (auth.SASLContinue bytes) rest = rest ≡ bytes
SpellsAfter (auth.SASLFinal bytes) rest = rest ≡ bytes

abbrev pub SpellsAuthentication : Authentication → List ℕ → Type 0
SpellsAuthentication m bytes =
    (code : List ℕ) × (rest : List ℕ) × (bytes ≡ code ++ rest)
    × SpellsNat w32 (authentication_code m) code × SpellsAfter m rest

abbrev pub authentication : Authentication → List ℕ
authentication auth.Ok = u32 0
authentication auth.KerberosV5 = u32 2
authentication auth.CleartextPassword = u32 3
authentication (auth.MD5Password salt) = u32 5 ++ salt
authentication (auth.SASL methods) = u32 10 ++ flat_map text methods ++ 0 ∷ []
authentication (auth.SASLContinue bytes) = u32 11 ++ bytes
authentication (auth.SASLFinal bytes) = u32 12 ++ bytes

-- an empty method would be the mark
abbrev pub is_method_refused : List ℕ → Bool
is_method_refused t = (length t == 0) || has_zero t

abbrev pub authentication_fault : Authentication → Option PgWireError
authentication_fault auth.Ok = None
authentication_fault auth.KerberosV5 = None
authentication_fault auth.CleartextPassword = None
authentication_fault (auth.MD5Password salt) = refused_if (not (length salt == 4))
authentication_fault (auth.SASL methods) = refused_if (list_any is_method_refused methods)
authentication_fault (auth.SASLContinue bytes) = None
authentication_fault (auth.SASLFinal bytes) = None

-- ---- ParameterStatus

unfoldable pub parameter_status_of : DecodeContext → List ℕ → Result ParameterStatus PgWireError
parameter_status_of ctx bytes =
    all_of (made_at (λ p. record { name = p.0; value = p.1 }) (pair_at text_at text_at) bytes)

abbrev pub SpellsParameterStatus : ParameterStatus → List ℕ → Type 0
SpellsParameterStatus m = Pair SpellsText SpellsText (m.name, m.value)

abbrev pub parameter_status : ParameterStatus → List ℕ
parameter_status m = text m.name ++ text m.value

abbrev pub parameter_status_fault : ParameterStatus → Option PgWireError
parameter_status_fault m = refused_if (has_zero m.name || has_zero m.value)

-- ---- BackendKeyData

unfoldable pub backend_key_data_of : DecodeContext → List ℕ → Result BackendKeyData PgWireError
backend_key_data_of ctx bytes =
    all_of (made_at (λ p. record { pid = p.0; secret_key = p.1 })
    (pair_at (int_at w32) (tried_at (key_of ctx.protocol_version) rest_at)) bytes)

abbrev pub SpellsBackendKeyData : ProtocolVersion → BackendKeyData → List ℕ → Type 0
SpellsBackendKeyData version m = Pair (SpellsInt w32) (SpellsKey version) (m.pid, m.secret_key)

abbrev pub backend_key_data : BackendKeyData → List ℕ
backend_key_data m = i32 m.pid ++ key_bytes m.secret_key

-- ---- NegotiateProtocolVersion

unfoldable pub negotiate_of : DecodeContext → List ℕ → Result NegotiateProtocolVersion PgWireError
negotiate_of ctx bytes =
    all_of (made_at (λ p. record { newest_minor_protocol = p.0; unsupported_options = p.1 })
    (pair_at (int_at w32) (counted_at w32 1 text_at)) bytes)

abbrev pub SpellsNegotiate : NegotiateProtocolVersion → List ℕ → Type 0
SpellsNegotiate m =
    Pair (SpellsInt w32) (SpellsCounted w32 SpellsText)
    (m.newest_minor_protocol, m.unsupported_options)

abbrev pub negotiate : NegotiateProtocolVersion → List ℕ
negotiate m =
    i32 m.newest_minor_protocol ++ u32 (length m.unsupported_options) ++ flat_map text
    m.unsupported_options

abbrev pub is_options_refused : List (List ℕ) → Bool
is_options_refused options = nat_lt 2147483647 (length options) || list_any has_zero options
