-- How a client ends, and what its dialer is told.
use Rattle.std.specs.Prelude.{◌≡◌, ℕ, Bool, true, false, List, Result, Ok, Err}
use Rattle.pgw_backend.specs.declared.client_error.PgWireClientError.{PgWireClientError as ClientError}
use Rattle.pgw_backend.specs.declared.client_error.PgWireClientError.TheVariants as client
use Rattle.pgw_frontend.specs.declared.frontend.PgWireFrontendMessage.TheVariants as frontend
use Rattle.pgw_frontend.specs.Frontend.{encoding}
use Rattle.pgw_types.specs.Counts.{Rose}
use Rattle.pgw_link.specs.Tape.{Tape}
use Rattle.pgw_link.specs.Sending.{Wrote, WroteSome}
use Rattle.pgw_link.specs.Dials.{DialTape, Shut, CountsClose}

-- the bytes that tell a server that the session is over
abbrev pub IsTerminate : List ℕ → Type 0
IsTerminate bytes = encoding (frontend.Terminate (record {})) ≡ Ok bytes

-- How a client takes leave over its link, by whether it is broken: it says nothing; or Terminate,
-- and flushes; or a call of the link failed in that.
abbrev pub TakesLeave : Bool → Tape → Tape → ℕ → ℕ → Result (Unit {0}) ClientError → Type 0
TakesLeave true old new before now (Ok done) = (new ≡ old) × (now ≡ before)
TakesLeave false old new before now (Ok done) =
    (bytes : List ℕ) × IsTerminate bytes × Wrote old new bytes × (now ≡ before)
TakesLeave false old new before now (Err client.IoError) =
    (bytes : List ℕ) × IsTerminate bytes × WroteSome old new bytes × Rose before now
TakesLeave broken old new before now result = ⊥

-- It took leave, and its dialer closed the link, which had told `last` by then, and of whose calls
-- so many had failed.
pub record Closed (broken : Bool) (tape : Tape) (faults : ℕ) (old new : DialTape) (before now : ℕ)
    (result : Result (Unit {0}) ClientError) : Type 0 where
  pub last : Tape
  pub failed : ℕ
  pub leaves : TakesLeave broken tape last faults failed result
  pub shut : Shut old new last
  pub counts : CountsClose before now failed
