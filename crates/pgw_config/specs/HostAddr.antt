-- IP addresses as text.
use Rattle.std.specs.Prelude.{ℕ, zero, suc, ◌+◌, ◌-◌, ◌*◌, ◌^◌, List, [], ◌∷◌, ◌++◌, length, take, drop, ◌&&◌, ◌==◌, nat_lt, Option, Some, None, position, slice_index, if◌then◌else◌}
use Rattle.std.specs.List.{list_all}
use Rattle.std.specs.Char.{is_digit}
use Rattle.std.specs.Str.Parse.{digits_value}
use Rattle.pgw_types.specs.Marks.{pieces_at}
use Rattle.pgw_config.specs.Pieces.{pushed, all_read}
use Rattle.pgw_types.specs.declared.address.HostAddr.{HostAddr}
use Rattle.pgw_types.specs.declared.address.HostAddr.TheVariants.{V4, V6}

-- digits alone, whose number has so many bits
unfoldable pub digits_in : ℕ → ℕ → List ℕ → Option ℕ
digits_in radix bits text =
    if nat_lt 0 (length text) &&
    (list_all (λ c. is_digit c radix) text && nat_lt (digits_value radix text) (2 ^ bits))
    then Some (digits_value radix text) else None

-- ---- IPv4

-- a decimal number to 255 without leading zeros
unfoldable pub octet_of : List ℕ → Option ℕ
octet_of text =
    if nat_lt 1 (length text) && slice_index text 0 == 48 then None else digits_in 10 8 text

-- a list of so many elements
abbrev pub exactly : ℕ → Option (List ℕ) → Option (List ℕ)
exactly n None = None
exactly n (Some xs) = if length xs == n then Some xs else None

-- four such numbers with dots between them
unfoldable pub v4_of : List ℕ → Option (List ℕ)
v4_of text = exactly 4 (all_read octet_of (pieces_at 46 text))

-- ---- IPv6

-- one to four hexadecimal digits
unfoldable pub group_of : List ℕ → Option ℕ
group_of text = if nat_lt (length text) 5 then digits_in 16 16 text else None

-- an IPv4 text stands for two groups
abbrev pub as_groups : List ℕ → List ℕ
as_groups octets =
    (256 * slice_index octets 0 + slice_index octets 1) ∷
    (256 * slice_index octets 2 + slice_index octets 3) ∷ []

abbrev pub groups_with_last : Option (List ℕ) → Option (List ℕ) → Option (List ℕ)
groups_with_last None ys = None
groups_with_last (Some xs) None = None
groups_with_last (Some xs) (Some ys) = Some (xs ++ ys)

-- the last piece may be an IPv4 text
abbrev pub last_by : List ℕ → Option (List ℕ) → Option (List ℕ)
last_by piece None = pushed (Some []) (group_of piece)
last_by piece (Some octets) = Some (as_groups octets)

abbrev pub last_group : List (List ℕ) → Option (List ℕ)
last_group [] = Some []
last_group (piece ∷ pieces) = last_by piece (v4_of piece)

-- the groups at the end of an address
unfoldable pub tail_of : List (List ℕ) → Option (List ℕ)
tail_of pieces =
    groups_with_last (all_read group_of (take (length pieces - 1) pieces))
    (last_group (drop (length pieces - 1) pieces))

-- what may stand behind `::`: nothing, or groups
abbrev pub behind_colons : List (List ℕ) → Option (List ℕ)
behind_colons [] = None
behind_colons ([] ∷ []) = Some []
behind_colons (piece ∷ pieces) = tail_of (piece ∷ pieces)

abbrev pub zeros : List ℕ
zeros = 0 ∷ 0 ∷ 0 ∷ 0 ∷ 0 ∷ 0 ∷ 0 ∷ 0 ∷ []

-- eight groups: `::` stands for one or more of zero
abbrev pub filled : Option (List ℕ) → Option (List ℕ) → Option (List ℕ)
filled None back = None
filled (Some front) None = None
filled (Some front) (Some back) =
    if nat_lt (length front + length back) 8 then Some
    (front ++ take (8 - (length front + length back)) zeros ++ back) else None

-- an empty piece is a `::`, and there is a piece before it
abbrev pub cut_by : List (List ℕ) → Option ℕ → Option (List ℕ)
cut_by pieces None = tail_of pieces
cut_by pieces (Some zero) = None
cut_by pieces (Some (suc i)) =
    filled (all_read group_of (take (suc i) pieces)) (behind_colons (drop (suc i + 1) pieces))

-- the pieces between colons; two empty ones are a `::` at the front
abbrev pub groups_of : List (List ℕ) → Option (List ℕ)
groups_of ([] ∷ [] ∷ back) = filled (Some []) (behind_colons back)
groups_of pieces = cut_by pieces (position (λ piece. length piece == 0) pieces)

unfoldable pub v6_of : List ℕ → Option (List ℕ)
v6_of text = exactly 8 (groups_of (pieces_at 58 text))

-- ---- either

abbrev pub addr_by : Option (List ℕ) → Option (List ℕ) → Option HostAddr
addr_by (Some octets) groups = Some (V4 octets)
addr_by None (Some groups) = Some (V6 groups)
addr_by None None = None

unfoldable pub addr_of : List ℕ → Option HostAddr
addr_of text = addr_by (v4_of text) (v6_of text)
