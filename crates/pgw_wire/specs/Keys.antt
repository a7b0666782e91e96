-- The key of a connection (BackendKeyData).
use Rattle.std.specs.Prelude.{◌≡◌, ◌≤◌, ℕ, ℤ, List, length, Bool, ◌||◌, ◌==◌, Option, Some, None, Result, Ok, Err, nat_lt, if◌then◌else◌, FitsSigned}
use Rattle.std.specs.Int.{w32, from_be_bytes, cast_signed}
use Rattle.pgw_types.specs.declared.error.PgWireError.{PgWireError}
use Rattle.pgw_types.specs.declared.error.PgWireError.TheVariants.{InvalidSecretKey, InvalidMessageBody}
use Rattle.pgw_types.specs.declared.context.ProtocolVersion.{ProtocolVersion}
use Rattle.pgw_types.specs.declared.context.ProtocolVersion.TheVariants.{PROTOCOL3_0, PROTOCOL3_2, PROTOCOL3_9999}
use Rattle.pgw_wire.specs.declared.secret_key.SecretKey.{SecretKey}
use Rattle.pgw_wire.specs.declared.secret_key.SecretKey.TheVariants.{I32, Bytes}
use Rattle.pgw_wire.specs.Writing.{i32}
use Rattle.pgw_wire.specs.Formats.{SpellsInt}

-- a key has 4 to 256 bytes
abbrev pub is_no_key : List ℕ → Bool
is_no_key bytes = nat_lt (length bytes) 4 || nat_lt 256 (length bytes)

abbrev pub key_int : List ℕ → ℤ
key_int bytes = cast_signed w32 (from_be_bytes w32 bytes)

-- under version 3.0 it is a number of four bytes
abbrev pub key_by : ProtocolVersion → List ℕ → Result SecretKey PgWireError
key_by PROTOCOL3_0 bytes =
    if length bytes == 4 then Ok (I32 (key_int bytes)) else Err InvalidMessageBody
key_by PROTOCOL3_2 bytes = Ok (Bytes bytes)
key_by PROTOCOL3_9999 bytes = Ok (Bytes bytes)

unfoldable pub key_of : ProtocolVersion → List ℕ → Result SecretKey PgWireError
key_of version bytes = if is_no_key bytes then Err InvalidSecretKey else key_by version bytes

-- the bytes are the key's, under the version
abbrev pub SpellsKey : ProtocolVersion → SecretKey → List ℕ → Type 0
SpellsKey PROTOCOL3_0 (I32 n) bytes = SpellsInt w32 n bytes
SpellsKey PROTOCOL3_0 (Bytes key) bytes = ⊥
SpellsKey PROTOCOL3_2 (I32 n) bytes = ⊥
SpellsKey PROTOCOL3_2 (Bytes key) bytes = (bytes ≡ key) × (4 ≤ length key) × (length key ≤ 256)
SpellsKey PROTOCOL3_9999 (I32 n) bytes = ⊥
SpellsKey PROTOCOL3_9999 (Bytes key) bytes = (bytes ≡ key) × (4 ≤ length key) × (length key ≤ 256)

abbrev pub key_bytes : SecretKey → List ℕ
key_bytes (I32 n) = i32 n
key_bytes (Bytes bytes) = bytes

abbrev pub key_fault : SecretKey → Option PgWireError
key_fault (I32 n) = None
key_fault (Bytes bytes) = if is_no_key bytes then Some InvalidSecretKey else None

-- every key of the program: its number fits
abbrev pub IsKey : SecretKey → Type 0
IsKey (I32 n) = FitsSigned w32 n
IsKey (Bytes bytes) = Unit {0}

-- a key that is a number has a place in version 3.0 alone, and one of bytes in later versions
abbrev pub SuitsKey : ProtocolVersion → SecretKey → Type 0
SuitsKey PROTOCOL3_0 (I32 n) = Unit {0}
SuitsKey PROTOCOL3_0 (Bytes bytes) = ⊥
SuitsKey PROTOCOL3_2 (I32 n) = ⊥
SuitsKey PROTOCOL3_2 (Bytes bytes) = Unit {0}
SuitsKey PROTOCOL3_9999 (I32 n) = ⊥
SuitsKey PROTOCOL3_9999 (Bytes bytes) = Unit {0}

-- the number that a key of four bytes is
abbrev pub key_number : SecretKey → Option ℤ
key_number (I32 n) = Some n
key_number (Bytes bytes) = if length bytes == 4 then Some (key_int bytes) else None
