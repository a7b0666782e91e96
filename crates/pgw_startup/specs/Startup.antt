-- The first message of a client.
use Rattle.std.specs.Prelude.{◌≡◌, ℕ, ◌<◌, Bool, not, ◌||◌, List, [], ◌∷◌, ◌++◌, length, Option, Some, None, Result, Ok, Err, nat_lt, ◌==◌, if◌then◌else◌}
use Rattle.std.specs.FinMap as map
use Rattle.std.specs.Int.{w16}
use Rattle.std.specs.List.{list_any}
use Rattle.pgw_types.specs.declared.error.PgWireError.{PgWireError}
use Rattle.pgw_types.specs.declared.error.PgWireError.TheVariants.{InvalidStartupMessage}
use Rattle.pgw_types.specs.declared.context.DecodeContext.{DecodeContext}
use Rattle.pgw_startup.specs.declared.startup.Startup.{Startup}
use Rattle.pgw_wire.specs.Reading.{nat_at, all_of, marked_list_at}
use Rattle.pgw_wire.specs.Writing.{u16}
use Rattle.pgw_wire.specs.Formats.{pair_at, Pair, made_at, tried_at, SpellsText, SpellsNat, SpellsMarked}
use Rattle.pgw_wire.specs.Pairs.{Held, pair_at as param_at, from_pairs, pairs_written, is_pair_refused}

unfoldable pub three : ℕ → Result ℕ PgWireError
three major = if major == 3 then Ok major else Err InvalidStartupMessage

abbrev pub startup_from : ℕ × (ℕ × Held) → Startup
startup_from p =
    record { protocol_number_major = p.0; protocol_number_minor = p.1.0; parameters = p.1.1 }

unfoldable pub startup_of : DecodeContext → List ℕ → Result Startup PgWireError
startup_of ctx bytes =
    if nat_lt (length bytes) 5 then Err InvalidStartupMessage
    else all_of (made_at startup_from (pair_at (tried_at three (nat_at w16))
    (pair_at (nat_at w16) (made_at from_pairs (marked_list_at param_at)))) bytes)

-- a name that is not empty and its value, or an empty name, which is the mark
abbrev pub SpellsPair : Option (List ℕ × List ℕ) → List ℕ → Type 0
SpellsPair None bytes = SpellsText [] bytes
SpellsPair (Some p) bytes = Pair SpellsText SpellsText p bytes × (0 < length p.0)

-- pairs up to the mark, of which a later one replaces an earlier one of its name
abbrev pub SpellsPairs : Held → List ℕ → Type 0
SpellsPairs held bytes =
    (pairs : List (List ℕ × List ℕ)) × SpellsMarked SpellsPair pairs bytes
    × (from_pairs pairs ≡ held)

abbrev pub SpellsStartup : Startup → List ℕ → Type 0
SpellsStartup m bytes =
    (m.protocol_number_major ≡ 3)
    × Pair (SpellsNat w16) (Pair (SpellsNat w16) SpellsPairs)
    (m.protocol_number_major, (m.protocol_number_minor, m.parameters)) bytes

abbrev pub startup : Startup → List ℕ
startup m =
    u16 m.protocol_number_major ++ u16 m.protocol_number_minor ++ pairs_written m.parameters ++ 0
    ∷ []

abbrev pub is_startup_refused : Startup → Bool
is_startup_refused m =
    not (m.protocol_number_major == 3) || list_any is_pair_refused (map.entries m.parameters)
