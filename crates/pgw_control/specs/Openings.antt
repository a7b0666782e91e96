-- What a client may send before its Startup, or in place of it: a code stands where a Startup has its version.
use Rattle.std.specs.Prelude.{◌≡◌, ℕ, ℤ, Bool, not, ◌&&◌, List, ◌++◌, length, Result, Ok, Err, nat_lt, ◌==◌, if◌then◌else◌}
use Rattle.std.specs.Int.{w32}
use Rattle.pgw_types.specs.declared.error.PgWireError.{PgWireError}
use Rattle.pgw_types.specs.declared.error.PgWireError.TheVariants.{InvalidSSLRequestMessage, InvalidGssEncRequestMessage, InvalidCancelRequest}
use Rattle.pgw_types.specs.declared.context.DecodeContext.{DecodeContext}
use Rattle.pgw_types.specs.declared.context.ProtocolVersion.{ProtocolVersion}
use Rattle.pgw_wire.specs.Reading.{nat_at, int_at, rest_at, all_of}
use Rattle.pgw_wire.specs.Framing.{code_in}
use Rattle.pgw_wire.specs.Formats.{pair_at, Pair, made_at, tried_at, SpellsNat, SpellsInt}
use Rattle.pgw_wire.specs.Writing.{i32, u32}
use Rattle.pgw_wire.specs.declared.secret_key.SecretKey.{SecretKey}
use Rattle.pgw_wire.specs.Keys.{key_of, SpellsKey, key_bytes}
use Rattle.pgw_control.specs.declared.ssl_request.SslRequest.{SslRequest}
use Rattle.pgw_control.specs.declared.gss_enc_request.GssEncRequest.{GssEncRequest}
use Rattle.pgw_control.specs.declared.cancel.CancelRequest.{CancelRequest}

-- whether a length and this code stand at the front
abbrev pub has_code : ℕ → List ℕ → Bool
has_code code bytes = not (nat_lt (length bytes) 8) && (code_in bytes == code)

-- no code but this one
unfoldable pub only_code : {A : Type 0} → ℕ → A → PgWireError → ℕ → Result A PgWireError
only_code code x why n = if n == code then Ok x else Err why

-- four bytes that nobody looks at, and a code
abbrev pub SpellsCoded : ℕ → List ℕ → Type 0
SpellsCoded code bytes =
    (head : List ℕ) × (tail : List ℕ) × (bytes ≡ head ++ tail) × (length head ≡ 4)
    × SpellsNat w32 code tail

-- ---- SSLRequest, GSSENCRequest

unfoldable pub ssl_request_of : DecodeContext → List ℕ → Result SslRequest PgWireError
ssl_request_of ctx bytes =
    all_of (tried_at (only_code 80877103 (record {}) InvalidSSLRequestMessage) (nat_at w32) bytes)

unfoldable pub gss_enc_request_of : DecodeContext → List ℕ → Result GssEncRequest PgWireError
gss_enc_request_of ctx bytes =
    all_of (tried_at (only_code 80877104 (record {}) InvalidGssEncRequestMessage) (nat_at w32)
    bytes)

-- ---- CancelRequest

abbrev pub cancel_from : Unit {0} × (ℤ × SecretKey) → CancelRequest
cancel_from p = record { pid = p.1.0; secret_key = p.1.1 }

-- a code, a process number and a key of four bytes or more
unfoldable pub cancel_request_of : DecodeContext → List ℕ → Result CancelRequest PgWireError
cancel_request_of ctx bytes =
    if nat_lt (length bytes) 12 then Err InvalidCancelRequest
    else all_of (made_at cancel_from (pair_at (tried_at
    (only_code 80877102 (record {}) InvalidCancelRequest) (nat_at w32))
    (pair_at (int_at w32) (tried_at (key_of ctx.protocol_version) rest_at))) bytes)

abbrev pub SpellsCancelRequest : ProtocolVersion → CancelRequest → List ℕ → Type 0
SpellsCancelRequest version m bytes =
    (code : List ℕ) × (rest : List ℕ) × (bytes ≡ code ++ rest) × SpellsNat w32 80877102 code
    × Pair (SpellsInt w32) (SpellsKey version) (m.pid, m.secret_key) rest

abbrev pub cancel_request : CancelRequest → List ℕ
cancel_request m = u32 80877102 ++ i32 m.pid ++ key_bytes m.secret_key
