-- How a pool ends, and a session that is not to be kept.
use Rattle.std.specs.Prelude.{ℕ, List, ◌∷◌, Result, Ok, Err}
use Rattle.pgw_backend.specs.declared.client_error.PgWireClientError.{PgWireClientError as ClientError}
use Rattle.pgw_link.specs.Dials.{DialTape}
use Rattle.pgw_client_calls.specs.Closing.{Closed}
use Rattle.pgw_pool.specs.Histories.{View}

abbrev pub first_pool_error : Result (Unit {0}) ClientError → Result (Unit {0}) ClientError →
    Result (Unit {0}) ClientError
first_pool_error (Ok done) result = result
first_pool_error (Err e) result = Err e

-- Of these sessions some were closed, from the front on, by which the dialer came to tell this: leave
-- was taken of each by its client's own close. These are left.
pub data ClosesIdleSessions (idle : List View) (old : DialTape) (before : ℕ)
    : List View → DialTape → ℕ → Result (Unit {0}) ClientError → Type 0 where
  none_closed : ClosesIdleSessions idle old before idle old before (Ok tt)
  one_closed : (v : View) (rest : List View) (mid new : DialTape) (count now : ℕ)
      (so_far result : Result (Unit {0}) ClientError) →
      ClosesIdleSessions idle old before (v ∷ rest) mid count so_far →
      Closed v.broken v.line.tape v.line.faults mid new count now result →
      ClosesIdleSessions idle old before rest new now (first_pool_error so_far result)
