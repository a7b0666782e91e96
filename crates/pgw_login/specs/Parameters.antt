-- Parameters that are set one after the other.
use Rattle.std.specs.Prelude.{ℕ, Bool, List, Option, Some, None, codes, if◌then◌else◌}
use Rattle.std.specs.FinMap as map
use Rattle.pgw_wire.specs.Pairs.{Held}

abbrev pub with_switch : List ℕ → Bool → Held → Held
with_switch name value held = map.insert held name (if value then codes "on" else codes "off")

abbrev pub with_given : List ℕ → Option (List ℕ) → Held → Held
with_given name None held = held
with_given name (Some value) held = map.insert held name value

-- the value that is set, or else the other one
abbrev pub parameter_or_own : Option (List ℕ) → Option (List ℕ) → Option (List ℕ)
parameter_or_own None own = own
parameter_or_own (Some value) own = Some value
