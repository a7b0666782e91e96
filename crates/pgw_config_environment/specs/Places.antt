-- The places of a configuration.
use Rattle.std.specs.Prelude.{◌==◌, ◌||◌, ◌&&◌, ℕ, zero, suc, List, [], ◌∷◌, ◌++◌, length, max, nat_le}
use Rattle.std.specs.Prelude.{Bool, Option, Some, None, if◌then◌else◌}
use Rattle.std.specs.List.{slice_get}
use Rattle.pgw_config.specs.declared.config.Config.{Config}

abbrev pub option_as_list : {A : Type 0} → Option A → List A
option_as_list None = []
option_as_list (Some item) = item ∷ []

-- the item at a place as a list, or none
abbrev pub one_at : {A : Type 0} → List A → ℕ → List A
one_at items at = option_as_list (slice_get items at)

-- a single port is that of all places
abbrev pub port_at : List ℕ → ℕ → List ℕ
port_at [] at = one_at [] at
port_at (port ∷ []) at = port ∷ []
port_at (port ∷ next ∷ ports) at = one_at (port ∷ next ∷ ports) at

-- the configuration with the host, the address and the port of this place alone
unfoldable pub config_at_place : Config → ℕ → Config
config_at_place config at = record config {
  host = one_at config.host at;
  hostaddr = one_at config.hostaddr at;
  port = port_at config.port at;
}

-- so many places, in order
unfoldable pub first_places : Config → ℕ → List Config
first_places config zero = []
first_places config (suc n) = first_places config n ++ config_at_place config n ∷ []

-- one list has this length, or is empty
abbrev pub has_or_none : ℕ → ℕ → Bool
has_or_none count n = (n == count) || (n == 0)

-- How many places there are (libpq, Specifying Multiple Hosts): as many as hosts or addresses, which
-- are as many where both are given, and no port, one for all or one for each. None otherwise.
abbrev pub count_by : ℕ → ℕ → ℕ → ℕ → Option ℕ
count_by count hosts addresses ports =
    if (has_or_none count hosts && has_or_none count addresses)
    && (nat_le ports 1 || (ports == count)) then Some count else None

abbrev pub place_count : Config → Option ℕ
place_count config = count_by (max (length config.host) (length config.hostaddr))
    (length config.host) (length config.hostaddr) (length config.port)

abbrev pub places_for : Config → Option ℕ → Option (List Config)
places_for config None = None
places_for config (Some count) = Some (first_places config count)

abbrev pub places_of : Config → Option (List Config)
places_of config = places_for config (place_count config)
