-- What stands before the body of a message with a type byte: that byte, and a length of four bytes.
use Rattle.std.specs.Prelude.{◌≡◌, ◌≤◌, ℕ, ◌+◌, List, length, take, drop, Option, Some, None}
use Rattle.std.specs.Int.{w32, from_be_bytes}

-- the length field at a place, as it stands
abbrev pub length_at : ℕ → List ℕ → ℕ
length_at at bytes = from_be_bytes w32 (take 4 (drop at bytes))

-- where the message at the front ends: its length counts itself, and not the type byte
abbrev pub typed_end : List ℕ → ℕ
typed_end bytes = length_at 1 bytes + 1

-- it is there as far as its end
abbrev pub IsWhole : List ℕ → Type 0
IsWhole bytes = (5 ≤ length bytes) × (typed_end bytes ≤ length bytes)

-- where the message at the front ends, if it is whole
abbrev pub MessageEndsAt : List ℕ → Option ℕ → Type 0
MessageEndsAt bytes None = ¬ IsWhole bytes
MessageEndsAt bytes (Some end) = IsWhole bytes × (end ≡ typed_end bytes)
