-- The key that a version and the words give.
use Rattle.std.specs.Prelude.{ℕ, List, [], ◌∷◌, slice_index}
use Rattle.std.specs.Int.{w32, cast_signed, from_be_bytes}
use Rattle.pgw_wire.specs.declared.secret_key.SecretKey.{SecretKey}
use Rattle.pgw_wire.specs.declared.secret_key.SecretKey.TheVariants.{I32, Bytes}
use Rattle.pgw_types.specs.declared.context.ProtocolVersion.{ProtocolVersion}
use Rattle.pgw_types.specs.declared.context.ProtocolVersion.TheVariants.{PROTOCOL3_0, PROTOCOL3_2, PROTOCOL3_9999}

-- the first four of the words
abbrev pub first_four : List ℕ → List ℕ
first_four words =
    slice_index words 0 ∷ slice_index words 1 ∷ slice_index words 2 ∷ slice_index words 3 ∷ []

-- four bytes at 3.0, as a number with the high byte first, and all bytes at a later version
abbrev pub process_key : ProtocolVersion → List ℕ → SecretKey
process_key PROTOCOL3_0 words = I32 (cast_signed w32 (from_be_bytes w32 (first_four words)))
process_key PROTOCOL3_2 words = Bytes words
process_key PROTOCOL3_9999 words = Bytes words
