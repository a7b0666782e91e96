-- The end of a client.
use Rattle.std.proofs.Common.{◌≡◌, ℕ, Bool, true, false, [], ◌∷◌, Result, Ok, Err, refl}
use Rattle.pgw_backend.specs.declared.client_error.PgWireClientError.{PgWireClientError as ClientError}
use Rattle.pgw_backend.specs.declared.client_error.PgWireClientError.TheVariants as client
use Rattle.pgw_wire.specs.Framing.{encoded}
use Rattle.pgw_frontend.specs.Frontend.{encoding}
use Rattle.pgw_types.specs.Counts.{Rose}
use Rattle.pgw_link.specs.Tape.{Tape}
use Rattle.pgw_link.specs.Sending.{Wrote, WroteSome}
use Rattle.pgw_link.specs.Dials.{CountsClose}
use Rattle.pgw_handlers.specs.Handling.{HasCause}
use Rattle.pgw_client_calls.specs.Closing.{IsTerminate, TakesLeave}
use Rattle.pgw_client_calls.proofs.ConnectLaws.{rose_some}

pub terminates : IsTerminate (88 ∷ 0 ∷ 0 ∷ 0 ∷ 4 ∷ [])
unfolding encoding encoded
terminates = refl

module _ (broken : Bool) (old new : Tape) (before now : ℕ) where
  pub left_silent : broken ≡ true → new ≡ old → now ≡ before → TakesLeave broken old new before now (Ok tt)
  left_silent is same calm = rw is (same, calm)

  pub left_told : broken ≡ false → Wrote old new (88 ∷ 0 ∷ 0 ∷ 0 ∷ 4 ∷ []) → now ≡ before
      → TakesLeave broken old new before now (Ok tt)
  left_told is wrote calm = rw is (88 ∷ 0 ∷ 0 ∷ 0 ∷ 4 ∷ [], terminates, wrote, calm)

  pub left_cut : broken ≡ false → WroteSome old new (88 ∷ 0 ∷ 0 ∷ 0 ∷ 4 ∷ []) → Rose before now
      → TakesLeave broken old new before now (Err client.IoError)
  left_cut is wrote rose = rw is (88 ∷ 0 ∷ 0 ∷ 0 ∷ 4 ∷ [], terminates, wrote, rose)

-- a failed call of the link raises its dialer's count as the link is closed
pub closed_cause : (broken : Bool) (tape last : Tape) (faults failed before now : ℕ)
    (r : Result (Unit {0}) ClientError)
    → TakesLeave broken tape last faults failed r → CountsClose before now failed → HasCause before now false r
closed_cause true tape last faults failed before now (Ok done) l c = record { later = c.later; failed = tt }
closed_cause false tape last faults failed before now (Ok done) l c = record { later = c.later; failed = tt }
closed_cause false tape last faults failed before now (Err client.IoError) l c =
    record { later = c.later; failed = c.failed (rose_some faults failed l.3) }
closed_cause true tape last faults failed before now (Err e) l c = absurd l
closed_cause false tape last faults failed before now (Err e) l c = absurd l
