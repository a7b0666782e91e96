-- What holds of every legal history.
use Rattle.std.specs.Prelude.{◌≡◌, ◌≢◌, ◌⊎◌, ℕ, ℤ, ◌<◌, List, Some, slice_get, take}
use Rattle.pgw_registry.specs.declared.call.Entry.{Entry}
use Rattle.pgw_registry.specs.declared.call.Call.TheVariants.{StartQuery, CancelHandle, Cancel, Look}
use Rattle.pgw_registry.specs.declared.call.Reply.TheVariants.{Looked, Started}
use Rattle.pgw_registry.specs.Sequential.{nothing, handle_of, state_after, IsLegal}

-- the query was started on the handle, at this place
abbrev pub StartsQueryAt : List Entry → ℕ → ℕ → ℕ → Type 0
StartsQueryAt log i h q =
    (a : Entry) × (slice_get log i ≡ Some a) × (a.call ≡ StartQuery h) × (a.reply ≡ Started q)

-- a cancel stands at this place, on the handle or by a number and a key that had it there
abbrev pub CancelsAt : List Entry → ℕ → ℕ → Type 0
CancelsAt log j h = (e : Entry) × (slice_get log j ≡ Some e)
    × ((e.call ≡ CancelHandle h) ⊎
    ((pid : ℤ) × (key : List ℕ) × (e.call ≡ Cancel pid key) ×
    (handle_of (state_after nothing (take j log)) pid key ≡ Some h)))

-- no start on the handle stands between these places
abbrev pub NoStartBetween : List Entry → ℕ → ℕ → ℕ → Type 0
NoStartBetween log i j h =
    (m : ℕ) (e : Entry) → i < m → m < j → slice_get log m ≡ Some e → e.call ≢ StartQuery h

-- a look answers fired only after a cancel on the query's handle, or by its number and key, with no
-- start on that handle between the query's start and that cancel
abbrev pub FiredLaw : Type 0
FiredLaw =
    (log : List Entry) → IsLegal log → (k q by : ℕ)
    → slice_get log k ≡ Some (record { by = by; call = Look q; reply = Looked (Some tt) })
    → (i : ℕ) × (j : ℕ) × (h : ℕ) × (i < j) × (j < k) × StartsQueryAt log i h q
    × CancelsAt log j h × NoStartBetween log i j h
