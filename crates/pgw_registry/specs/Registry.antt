-- What each answer of the registry says, and what it keeps.
use Rattle.std.specs.Prelude.{◌≡◌, ℕ, ℤ, ◌+◌, ◌<◌, ◌≤◌, List, Some}
use Rattle.std.specs.Ordering.{nat_cmp}
use Rattle.std.specs.FinMap as map
use Rattle.pgw_registry.specs.Pairs.{PairMap}
use Rattle.pgw_registry.specs.declared.pairs.Pair.{Pair}
use Rattle.pgw_registry.specs.declared.call.Handle.{Handle}
use Rattle.pgw_registry.specs.declared.call.Call.{Call}
use Rattle.pgw_registry.specs.declared.call.Reply.{Reply}
use Rattle.pgw_registry.specs.declared.call.Reply.TheVariants.{NoHandle, NoQuery}
use Rattle.pgw_registry.specs.declared.error.RegistryError.{RegistryError}
use Rattle.pgw_registry.specs.declared.error.RegistryError.TheVariants.{Gone, Exhausted, OutOfMemory}
use Rattle.pgw_registry.specs.declared.error.LookError.{LookError}
use Rattle.pgw_registry.specs.declared.error.LookError.TheVariants as look
use Rattle.pgw_registry.specs.Sequential.{Book, ProcessHandles, next_book, reply_of}

-- the call was made, with this reply
abbrev pub Makes : Call → Reply → Book → Book → Type 0
Makes c r b d = (b.events < 18446744073709551615) × (r ≡ reply_of b c) × (d ≡ next_book b c)

-- no event may be added, and nothing changes
abbrev pub IsFull : Book → Book → Type 0
IsFull b d = (b.events ≡ 18446744073709551615) × (d ≡ b)

-- memory is wanted, and nothing changes
abbrev pub IsShort : Book → Book → Type 0
IsShort b d = (b.events < 18446744073709551615) × (d ≡ b)

-- a call on a handle, which needs memory. That the handle is gone is a reply
abbrev pub StartFails : Call → RegistryError → Book → Book → Type 0
StartFails c Gone b d = Makes c NoHandle b d
StartFails c Exhausted b d = IsFull b d
StartFails c OutOfMemory b d = IsShort b d

-- a call that makes a handle, which needs memory
abbrev pub GrowFails : RegistryError → Book → Book → Type 0
GrowFails Gone b d = ⊥
GrowFails Exhausted b d = IsFull b d
GrowFails OutOfMemory b d = IsShort b d

-- a call on a handle, which needs no memory
abbrev pub StrikeFails : Call → RegistryError → Book → Book → Type 0
StrikeFails c Gone b d = Makes c NoHandle b d
StrikeFails c Exhausted b d = IsFull b d
StrikeFails c OutOfMemory b d = ⊥

-- a call that needs neither
abbrev pub ReleaseFails : RegistryError → Book → Book → Type 0
ReleaseFails Gone b d = ⊥
ReleaseFails Exhausted b d = IsFull b d
ReleaseFails OutOfMemory b d = ⊥

-- a look. That nothing is told of the query is a reply
abbrev pub LookFails : Call → LookError → Book → Book → Type 0
LookFails c look.Canceled b d = Makes c NoQuery b d
LookFails c look.Exhausted b d = IsFull b d

-- each handle has a holder, and no more of them than there were events and one
abbrev pub FewHolders : ProcessHandles → ℕ → Type 0
FewHolders hs n =
    (k : ℕ) (x : Handle) → map.get hs k ≡ Some x → (0 < x.holders) × (x.holders ≤ n + 1)

abbrev pub cancel_key_pair : ℤ → List ℕ → Pair
cancel_key_pair pid key = record { pid = pid; key = key }

-- each pair is the one with which its handle was made
abbrev pub NamesPairs : PairMap → map.FinMap nat_cmp Pair → ℕ → Type 0
NamesPairs pairs names made =
    (pid : ℤ) (key : List ℕ) (h : ℕ) → map.get pairs (pid, key) ≡ Some h
    → (h ≤ made) × (map.get names h ≡ Some (cancel_key_pair pid key))
