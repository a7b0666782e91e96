-- The sessions of a shared pool.
use Rattle.std.specs.Prelude.{◌≡◌, ◌≢◌, ◌⊎◌, ◌<◌, ◌≤◌, ◌+◌, ◌-◌, ◌++◌, ◌∷◌, [], ℕ, List, length}
use Rattle.pgw_types.specs.Counts.{next_count}
use Rattle.pgw_config.specs.declared.config.Config.{Config}
use Rattle.pgw_pool.specs.declared.returned.Returned.{Returned}
use Rattle.pgw_pool.specs.declared.returned.Returned.TheVariants as returned
use Rattle.pgw_pool.specs.Histories.{History, View, lent_as, IsLent, BeginsIdle}
use Rattle.pgw_pool.specs.Lending.{Lends, most_leases}
use Rattle.pgw_pool.specs.Starting.{Dials, PoolConnects, ConnectAll, NotStarted}
use Rattle.pgw_backend.specs.declared.client_error.PgWireClientError.{PgWireClientError as ClientError}
use Rattle.pgw_backend.specs.declared.client_error.PgWireClientError.TheVariants as client
use Rattle.pgw_pool.specs.Stocks.{Out}
use Rattle.pgw_pool_shared.specs.declared.pool.GivenBack.{GivenBack}
use Rattle.pgw_pool_shared.specs.declared.pool.GivenBack.TheVariants as given
use Rattle.pgw_pool_shared.specs.declared.pool.Refilled.{Refilled}
use Rattle.pgw_pool_shared.specs.declared.pool.Refilled.TheVariants.{Added, Full, Displaced}

-- what is seen of a pool: how many leases it has lent, its idle sessions, how many leases are out,
-- how many sessions it has dropped and connected, and for how many it has room
pub record Shelf : Type 0 where
  pub lent : ℕ
  pub idle : List View
  pub out : ℕ
  pub dropped : ℕ
  pub connected : ℕ
  pub room : ℕ

-- a session that may be lent again: the number of its last lease, or 0, and what is seen of it
pub record Rested : Type 0 where
  pub last : ℕ
  pub view : View

abbrev pub rested : ℕ → View → Rested
rested last view = record { last = last; view = view }

-- ---- calls

-- the session that has been idle longest is lent, under the next number
pub record LendsLease (old new : Shelf) (o : Out) : Type 0 where
  pub lends : Lends old.idle old.lent new.idle new.lent o.number o.view
  pub out : new.out ≡ old.out + 1
  pub dropped : new.dropped ≡ old.dropped
  pub connected : new.connected ≡ old.connected
  pub room : new.room ≡ old.room

-- all numbers were lent
abbrev pub IsSpent : Shelf → Type 0
IsSpent s = s.lent ≡ most_leases

-- The session is idle, behind all others. A new one is counted, and any other was out.
pub record TakesSession (old : Shelf) (back : Rested) (new : Shelf) : Type 0 where
  pub idle : new.idle ≡ old.idle ++ back.view ∷ []
  pub lent : new.lent ≡ old.lent
  pub is_new : back.last ≡ 0 →
      (new.out ≡ old.out) × (new.connected ≡ next_count old.connected)
  pub was_out : back.last ≢ 0 → (new.out ≡ old.out - 1) × (new.connected ≡ old.connected)
  pub dropped : new.dropped ≡ old.dropped
  pub room : new.room ≡ old.room

-- it was lent by another pool, as far as its number tells; or it is new, and no place is free
abbrev pub RefusesSession : Shelf → Rested → Type 0
RefusesSession s back =
    (s.lent < back.last) ⊎ ((back.last ≡ 0) × (s.room ≤ length s.idle + s.out))

-- a lease is over, and its session was let go
pub record LosesSession (old new : Shelf) : Type 0 where
  pub idle : new.idle ≡ old.idle
  pub lent : new.lent ≡ old.lent
  pub out : new.out ≡ old.out - 1
  pub dropped : new.dropped ≡ next_count old.dropped
  pub connected : new.connected ≡ old.connected
  pub room : new.room ≡ old.room

-- ---- a lease

-- A lease in which nothing was asked: over its session a login was made, then the requests of its
-- leases before, each with a reset behind it, and the last status is Idle if there were any. The
-- first lease has number 1.
pub record IsNewLease (o : Out) : Type 0 where
  pub history : History
  pub stands : IsLent history (lent_as o.number) o.view
  pub begins : BeginsIdle history.over
  pub numbered : 0 < o.number

-- how the reset of the session was answered
abbrev pub returned_by_pool : GivenBack → Returned
returned_by_pool given.Kept = returned.Kept
returned_by_pool (given.Dropped why) = returned.Dropped why
returned_by_pool given.Foreign = returned.Kept

-- a session was logged in; or no place was free, and nothing was dialled; or none was by the time
-- that the session was logged in
abbrev pub IsRefilled : Config → ℕ → List ℕ → Dials → Dials → Refilled → Type 0
IsRefilled config limit nonce old new Added =
    (v : View) × PoolConnects config limit nonce old new v
IsRefilled config limit nonce old new Full = new ≡ old
IsRefilled config limit nonce old new Displaced =
    (v : View) × PoolConnects config limit nonce old new v

-- why no shared pool was started: no pool was; or its sessions were connected, and then memory was
-- wanting
abbrev pub NotShared : Type 0 → Config → ℕ → List (List ℕ) → Dials → Dials → ClientError → Type 0
NotShared foretells config limit nonces old new e =
    NotStarted foretells config limit nonces old new e
    ⊎ ((e ≡ client.OutOfMemory) × (vs : List View) × ConnectAll config limit old nonces new vs)
