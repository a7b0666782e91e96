-- The one byte that answers a request for encryption.
use Rattle.std.specs.Prelude.{◌≡◌, ℕ, List, ◌++◌, Some, Result, Ok, Err, ◌==◌, if◌then◌else◌}
use Rattle.std.specs.Int.{w8}
use Rattle.pgw_types.specs.declared.error.PgWireError.{PgWireError}
use Rattle.pgw_types.specs.declared.error.PgWireError.TheVariants.{InvalidMessageType}
use Rattle.pgw_types.specs.declared.context.DecodeContext.{DecodeContext}
use Rattle.pgw_wire.specs.Reading.{nat_at, all_of}
use Rattle.pgw_wire.specs.declared.framing.Framing.TheVariants.{OneByte}
use Rattle.pgw_wire.specs.Framing.{wire_front}
use Rattle.pgw_wire.specs.Formats.{tried_at, SpellsNat}
use Rattle.pgw_startup.specs.declared.response.EncryptionResponse.{EncryptionResponse}
use Rattle.pgw_startup.specs.declared.response.EncryptionResponse.TheVariants as answer
use Rattle.pgw_wire.specs.declared.limits.TheConstants.{SMALL_LIMIT}

-- S or G, by what was asked for, and N
abbrev pub answer_byte : (accept : ℕ) → EncryptionResponse accept → ℕ
answer_byte accept answer.Accept = accept
answer_byte accept answer.Refuse = 78

abbrev pub SpellsEncryptionResponse : {accept : ℕ} → EncryptionResponse accept → List ℕ → Type 0
SpellsEncryptionResponse {accept} m = SpellsNat w8 (answer_byte accept m)

-- another byte is refused
unfoldable pub answer_of_byte : (accept : ℕ) → ℕ → Result (EncryptionResponse accept) PgWireError
answer_of_byte accept b =
    if b == accept then Ok answer.Accept else
    (if b == 78 then Ok answer.Refuse else Err (InvalidMessageType b))

unfoldable pub encryption_response_of : (accept : ℕ) → DecodeContext → List ℕ
    → Result (EncryptionResponse accept) PgWireError
encryption_response_of accept ctx bytes =
    all_of (tried_at (answer_of_byte accept) (nat_at w8) bytes)

-- what is read of one byte is spelled so, and what is spelled so is read, whatever follows it
pub record IsReply {M : Type 0} (read : List ℕ → Result M PgWireError)
    (Spells : M → List ℕ → Type 0) : Type 0 where
  pub found : (bytes : List ℕ) (m : M) (rest : List ℕ)
      → wire_front OneByte SMALL_LIMIT read bytes ≡ Ok (Some (m, rest))
      → (g : List ℕ) × (bytes ≡ g ++ rest) × Spells m g
  pub only : (m : M) (g rest : List ℕ) → Spells m g
      → wire_front OneByte SMALL_LIMIT read (g ++ rest) ≡ Ok (Some (m, rest))
