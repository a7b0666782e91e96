-- A session whose configuration is refused.
use Rattle.std.proofs.Common.{◌≡◌, ℕ, List, [], Some, Result, Ok, Err, inl, inr, arith, refl, sym, subst}
use Rattle.std.proofs.lemmas.List.{append-nil}
use Rattle.pgw_backend.specs.declared.client_error.PgWireClientError.{PgWireClientError as ClientError}
use Rattle.pgw_backend.specs.declared.client_error.PgWireClientError.TheVariants as client
use Rattle.pgw_link.specs.Tape.{Tape, MovedBy}
use Rattle.pgw_session.specs.Input.{Input}
use Rattle.pgw_session.specs.Demands.{refused_config}
use Rattle.pgw_dialogue.specs.Demands.{IsInvalidConfig}
use Rattle.pgw_client.specs.Session.{Causes, ErrorCause, InLockstep, KeepsPace}

-- ---- nothing was read or written

moved_none : (tape : Tape) (fact : List ℕ → List ℕ → Type 0) → fact [] [] → MovedBy tape tape fact
moved_none tape fact holds = ([], [], sym (append-nil tape.took), sym (append-nil tape.wrote), holds)

pub refused_causes : (input : Input) (limit : ℕ) (tape : Tape) (e : ClientError) (key : List ℕ)
    → refused_config input.config ≡ Some key → IsInvalidConfig key e → Causes input limit tape tape (Err e)
refused_causes input limit tape e key is (inl named) =
    subst (λ x. Causes input limit tape tape (Err x)) (sym named)
    (moved_none tape (λ taken sent. ErrorCause input limit tape tape taken sent (client.InvalidConfig key))
    (inl (is, refl, refl)))
refused_causes input limit tape e key is (inr memory) =
    subst (λ x. Causes input limit tape tape (Err x)) (sym memory) (moved_none tape (λ taken sent. Unit {0}) tt)

pub refused_paced : (limit : ℕ) (tape : Tape) → MovedBy tape tape (KeepsPace limit tape tape)
refused_paced limit tape =
    moved_none tape (KeepsPace limit tape tape)
    (record { within = omega arith; reads = omega arith; writes = omega arith })

pub refused_lockstep : (input : Input) (tape : Tape) → InLockstep input tape tape
refused_lockstep input tape = inl refl

-- ---- IoError

pub not_io : {T : Type 0} {r : Result T ClientError} {value : T} → r ≡ Ok value → r ≡ Err client.IoError → ⊥
not_io is io = cc

pub io_where : {T : Type 0} (r : Result T ClientError) → ((r ≡ Err client.IoError → ⊥) → ⊥)
    → r ≡ Err client.IoError
io_where (Ok value) must = absurd (must (λ is. cc))
io_where (Err client.IoError) must = refl
io_where (Err e) must = absurd (must (λ is. cc))
