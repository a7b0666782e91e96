-- The text of quoted pieces.
use Rattle.std.proofs.Common.{◌≡◌, ℕ, List, ◌++◌}
use Rattle.std.specs.List.{flat_map}
use Rattle.std.proofs.lemmas.Grind.{flat_map-append}
use Rattle.pgw_prog_sessions.specs.Pieces.{quoted_byte}

-- one text behind another is quoted byte by byte
pub quoted_behind : (one other : List ℕ)
    → flat_map quoted_byte (one ++ other) ≡ flat_map quoted_byte one ++ flat_map quoted_byte other
quoted_behind one other = flat_map-append quoted_byte one other
