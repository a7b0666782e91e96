-- Sessions that are lent, and come back.
use Rattle.std.proofs.Common.{◌≡◌, ◌<◌, ◌≤◌, ◌+◌, ℕ, List, [], ◌∷◌, length, Result, arith, refl, inl, inr, sym, subst}
use Rattle.pgw_backend.specs.declared.client_error.PgWireClientError.{PgWireClientError as ClientError}
use Rattle.pgw_session.specs.declared.types.Request.{Request}
use Rattle.pgw_session.specs.declared.types.Answer.{Answer}
use Rattle.pgw_pool.specs.declared.returned.Returned.TheVariants.{Kept}
use Rattle.pgw_pool.specs.Histories.{History, View, lent_as, IsIdleInPool, AreIdle}
use Rattle.pgw_pool.specs.Lending.{Lends, LendsFirst}
use Rattle.pgw_pool.specs.Returning.{GivesBack}
use Rattle.pgw_pool.specs.Stocks.{stock, leased, IsOut, LeaseRuns, StockStep, runs, gives_back, no_step, step_more, IsStockInOrder}
use Rattle.pgw_pool.proofs.StockLaws.{any_steps}
use Rattle.pgw_pool_shared.specs.Shelves.{Shelf, Rested, RefusesSession, IsNewLease}

-- ---- a lease begins

pub begins : (now number : ℕ) (hs : List History) (rest : List View) (v : View) → LendsFirst hs now rest number v
    → IsOut number (leased number v)
begins now number [] rest v first = absurd first
begins now number (h ∷ hs) rest v first =
    record { history = h; lease = lent_as number; number = refl; own = omega arith; stands = inl first.0 }

pub new_lease : (lent now number : ℕ) (idle : List View) (hs : List History) (rest : List View) (v : View)
    → Lends idle lent rest now number v → LendsFirst hs now rest number v → IsNewLease (leased number v)
new_lease lent now number idle [] rest v lends first = absurd first
new_lease lent now number idle (h ∷ hs) rest v lends first =
    record {
      history = h;
      stands = first.0;
      begins = first.1;
      numbered = let a = lends.counted in let b = lends.numbered in omega arith;
    }

pub others : (now number : ℕ) (hs : List History) (rest : List View) (v : View) → LendsFirst hs now rest number v
    → (more : List History) × AreIdle now more rest
others now number [] rest v first = absurd first
others now number (h ∷ hs) rest v first = (hs, first.2)

-- a shelf of which nothing was lent or put
pub same_idle : (low now : ℕ) (vs all : List View) → now ≡ low → all ≡ vs
    → (hs : List History) × AreIdle low hs vs → (hs : List History) × AreIdle now hs all
same_idle low now vs all same kept are =
    (are.0, subst (λ n. AreIdle n are.0 all) (sym same) (subst (AreIdle low are.0) (sym kept) are.1))

-- its number was lent here, and where it is new there is a place for it
pub not_refused : (s : Shelf) (back : Rested) → back.last ≤ s.lent
    → (back.last ≡ 0 → length s.idle + s.out < s.room)
    → ¬ RefusesSession s back
not_refused s back own room (inl above) = omega (arith, own, above)
not_refused s back own room (inr full) = omega (arith, room full.0, full.1)

-- ---- it goes on, and ends

pub goes_on : (number : ℕ) (q : Request) (old new : View) (result : Result Answer ClientError)
    → LeaseRuns q old new result → IsOut number (leased number old) → IsOut number (leased number new)
goes_on number q old new result r out =
    let s = stock number [] (leased number old ∷ []) in
    let t = stock number [] (leased number new ∷ []) in
    let step : StockStep s t = runs number number [] [] [] q old new result r in
    let is : IsStockInOrder t =
    any_steps s t (step_more s s t (no_step s) step) (record { histories = []; idle = tt; out = (out, tt) })
    in
    (is.out).0

one_idle : (lent : ℕ) (hs : List History) (v : View) → AreIdle lent hs (v ∷ [])
    → (h : History) × IsIdleInPool lent h v
one_idle lent [] v are = absurd are
one_idle lent (h ∷ hs) v are = (h, are.0)

pub comes_back : (number : ℕ) (old v : View) → GivesBack old [] (v ∷ []) Kept → IsOut number (leased number old)
    → (h : History) × IsIdleInPool number h v
comes_back number old v g out =
    let s = stock number [] (leased number old ∷ []) in
    let t = stock number (v ∷ []) [] in
    let step : StockStep s t = gives_back number number [] (v ∷ []) [] [] old Kept g in
    let is : IsStockInOrder t =
    any_steps s t (step_more s s t (no_step s) step) (record { histories = []; idle = tt; out = (out, tt) })
    in
    one_idle number is.histories v is.idle
