-- What becomes of a pass where a connection is registered.
use Rattle.std.specs.Prelude.{◌≡◌, ◌⊎◌, ℤ, List, length, Option, Some, None, option_map, Result, Ok, Err}
use Rattle.std.specs.Arc.{arc_value}
use Rattle.atomic_table.specs.Seated.{TableId}
use Rattle.pgw_wire.specs.Keys.{key_bytes}
use Rattle.pgw_wire.specs.declared.secret_key.SecretKey.{SecretKey}
use Rattle.pgw_registry.specs.Passes.{Known, Makes, PassCannotGrow}
use Rattle.pgw_registry.specs.declared.call.Call.TheVariants.{Register}
use Rattle.pgw_registry.specs.declared.call.Reply.TheVariants.{Handled}
use Rattle.pgw_registry.specs.declared.error.RegistryError.{RegistryError}
use Rattle.pgw_registry.specs.declared.error.RegistryError.TheVariants.{Gone, Exhausted, OutOfMemory}
use Rattle.pgw_registry.specs.declared.manager.ConnectionHandle.{ConnectionHandle}
use Rattle.pgw_registry.specs.declared.manager.ConnectionGuard.{ConnectionGuard}

abbrev pub HandlePair : Type 0
HandlePair = ConnectionHandle × ConnectionGuard

abbrev pub pair_handle : Option HandlePair → Option ConnectionHandle
pair_handle = option_map (λ p. p.0)

abbrev pub guard_of : Option HandlePair → Option ConnectionGuard
guard_of = option_map (λ p. p.1)

-- what is registered can be released by the pass: there is one, and it is of the same manager
abbrev pub CanRelease : Option ConnectionGuard → Option Known → Type 0
CanRelease None pass = Unit {0}
CanRelease (Some guard) None = ⊥
CanRelease (Some guard) (Some v) = v.of ≡ arc_value guard.manager

-- the greatest number of events stands in what the pass has seen
abbrev pub IsPassFull : Option Known → Type 0
IsPassFull None = ⊥
IsPassFull (Some v) = length v.seen ≡ 18446744073709551615

-- no registration is answered Gone, and one is answered Exhausted only where the count is full
abbrev pub CanBe : Option Known → Result (Option HandlePair) RegistryError → Type 0
CanBe after (Ok pair) = Unit {0}
CanBe after (Err Gone) = ⊥
CanBe after (Err Exhausted) = IsPassFull after
CanBe after (Err OutOfMemory) = Unit {0}

-- no connection is registered
abbrev pub NotRegistered : Option Known → Option Known → Result (Option HandlePair) RegistryError
    → Type 0
NotRegistered before after answer = (after ≡ before) × (answer ≡ Ok None)

-- the pass is one of this manager
abbrev pub IsOf : TableId → Option Known → Type 0
IsOf manager None = Unit {0}
IsOf manager (Some v) = v.of ≡ manager

-- the manager's answer to its call
abbrev pub RegisteredBy : TableId → Known → ℤ → SecretKey → Known
    → Result (Option HandlePair) RegistryError → Type 0
RegisteredBy manager v pid key w (Ok None) = ⊥
RegisteredBy manager v pid key w (Ok (Some p)) =
    Makes (Register pid (key_bytes key)) (Handled p.0.number) v w × (p.1.pid ≡ pid)
    × (p.1.key ≡ key_bytes key) × (arc_value p.1.manager ≡ manager)
RegisteredBy manager v pid key w (Err e) = PassCannotGrow e v w ⊎ ((e ≡ OutOfMemory) × (w ≡ v))

-- the manager's call is made where there is a pass
abbrev pub RegisteredAt : TableId → Option Known → ℤ → SecretKey → Option Known
    → Result (Option HandlePair) RegistryError → Type 0
RegisteredAt manager None pid key after answer = NotRegistered None after answer
RegisteredAt manager (Some v) pid key after answer =
    (w : Known) × (after ≡ Some w) × RegisteredBy manager v pid key w answer
