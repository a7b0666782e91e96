-- A pool with the leases that are out, over any list of calls.
use Rattle.std.specs.Prelude.{◌≡◌, ◌⊎◌, ◌≤◌, ℕ, true, false, List, [], ◌∷◌, ◌++◌, Result, Err}
use Rattle.pgw_backend.specs.declared.client_error.PgWireClientError.{PgWireClientError as ClientError}
use Rattle.pgw_backend.specs.declared.client_error.PgWireClientError.TheVariants as client
use Rattle.pgw_session.specs.declared.types.Request.{Request}
use Rattle.pgw_session.specs.declared.types.Answer.{Answer}
use Rattle.pgw_client_ask.specs.Asking.{Asks}
use Rattle.pgw_pool.specs.declared.returned.Returned.{Returned}
use Rattle.pgw_config.specs.declared.config.Config.{Config}
use Rattle.pgw_pool.specs.Histories.{History, Lent, View, new_history, IsIdleInPool, IsLent, AreIdle}
use Rattle.pgw_pool.specs.Lending.{Lends, IsCutLease}
use Rattle.pgw_pool.specs.Returning.{GivesBack}
use Rattle.pgw_pool.specs.declared.checking.Unfit.{Unfit}
use Rattle.pgw_pool.specs.Checking.{ChecksFirst, LendsFit}

-- a lease that is out
pub record Out : Type 0 where
  pub number : ℕ
  pub view : View

abbrev pub leased : ℕ → View → Out
leased number view = record { number = number; view = view }

-- how many leases a pool has lent, its idle sessions, and its leases that are out
pub record Stock : Type 0 where
  pub lent : ℕ
  pub idle : List View
  pub out : List Out

abbrev pub stock : ℕ → List View → List Out → Stock
stock lent idle out = record { lent = lent; idle = idle; out = out }

-- ---- calls

-- what `run` promises of a lease
pub record LeaseRuns (q : Request) (old new : View) (result : Result Answer ClientError) : Type 0
  where
    pub broken : old.broken ≡ true → (result ≡ Err client.Broken) × (new ≡ old)
    pub asks : old.broken ≡ false →
        Asks q old.client old.line new.client new.line new.broken result

-- one call: of the pool, or of a lease that is out
pub data StockStep : Stock → Stock → Type 0 where
  lends : (lent now number : ℕ) (idle rest : List View) (v : View) (out : List Out) →
      Lends idle lent rest now number v →
      StockStep (stock lent idle out) (stock now rest (out ++ leased number v ∷ []))
  runs : (lent number : ℕ) (idle : List View) (before behind : List Out) (q : Request)
      (old new : View) (result : Result Answer ClientError) → LeaseRuns q old new result →
      StockStep (stock lent idle (before ++ leased number old ∷ behind))
      (stock lent idle (before ++ leased number new ∷ behind))
  gives_back : (lent number : ℕ) (idle now : List View) (before behind : List Out) (old : View)
      (result : Returned) → GivesBack old idle now result →
      StockStep (stock lent idle (before ++ leased number old ∷ behind))
      (stock lent now (before ++ behind))
  lends_fit : (lent now number : ℕ) (idle rest : List View) (v : View) (out : List Out) →
      LendsFit idle lent rest now number v →
      StockStep (stock lent idle out) (stock now rest (out ++ leased number v ∷ []))
  drops_unfit : (lent : ℕ) (idle rest : List View) (last : View) (why : Unfit) (out : List Out) →
      ChecksFirst idle rest last (Err why) → StockStep (stock lent idle out) (stock lent rest out)
  refills : (lent : ℕ) (idle now : List View) (out : List Out) (config : Config) (nonce : List ℕ)
      (v : View) → IsIdleInPool 0 (new_history config nonce) v → now ≡ idle ++ v ∷ [] →
      StockStep (stock lent idle out) (stock lent now out)
  retires : (lent number : ℕ) (idle : List View) (before behind : List Out) (old : View) →
      StockStep (stock lent idle (before ++ leased number old ∷ behind))
      (stock lent idle (before ++ behind))

-- any list of calls
pub data StockSteps : Stock → Stock → Type 0 where
  no_step : (s : Stock) → StockSteps s s
  step_more : (s t u : Stock) → StockSteps s t → StockStep t u → StockSteps s u

-- ---- what they come to

-- the lease stands for what was asked in it, or an error has left its session unusable
pub record IsOut (lent : ℕ) (o : Out) : Type 0 where
  pub history : History
  pub lease : Lent
  pub number : lease.number ≡ o.number
  pub own : o.number ≤ lent
  pub stands : IsLent history lease o.view
      ⊎ ((q : Request) × (e : ClientError) × IsCutLease history lease q e o.view)

abbrev pub AreOut : ℕ → List Out → Type 0
AreOut lent [] = Unit {0}
AreOut lent (o ∷ out) = IsOut lent o × AreOut lent out

-- each idle session has its history, and so has each that is out
pub record IsStockInOrder (s : Stock) : Type 0 where
  pub histories : List History
  pub idle : AreIdle s.lent histories s.idle
  pub out : AreOut s.lent s.out
