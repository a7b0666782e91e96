-- The end of a pool.
use Rattle.std.proofs.Common.{◌≡◌, ℕ, List, ◌∷◌, Result, sym, subst}
use Rattle.pgw_backend.specs.declared.client_error.PgWireClientError.{PgWireClientError as ClientError}
use Rattle.pgw_link.specs.Dials.{DialTape}
use Rattle.pgw_client_calls.specs.Closing.{Closed}
use Rattle.pgw_pool.specs.Histories.{View}
use Rattle.pgw_pool.specs.Closing.{first_pool_error, ClosesIdleSessions, one_closed}

pub one_more_closed : (idle : List View) (old : DialTape) (before : ℕ) (v : View) (these rest : List View)
    (mid new : DialTape) (count now : ℕ) (so_far result all : Result (Unit {0}) ClientError)
    → these ≡ v ∷ rest → all ≡ first_pool_error so_far result
    → ClosesIdleSessions idle old before these mid count so_far
    → Closed v.broken v.line.tape v.line.faults mid new count now result
    → ClosesIdleSessions idle old before rest new now all
one_more_closed idle old before v these rest mid new count now so_far result all front is closes closed =
    let here : ClosesIdleSessions idle old before (v ∷ rest) mid count so_far =
    subst (λ (l : List View). ClosesIdleSessions idle old before l mid count so_far) front closes in
    subst (ClosesIdleSessions idle old before rest new now) (sym is)
    (one_closed v rest mid new count now so_far result here closed)
