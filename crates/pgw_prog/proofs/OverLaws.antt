-- What is said of a session over a link.
use Rattle.std.proofs.Common.{◌≡◌, ℕ, List, [], Option, Some, None, Result, Err, refl, sym, ap, subst, arith, inl}
use Rattle.std.proofs.lemmas.List.{append-nil}
use Rattle.std.specs.Prelude.{IfSome}
use Rattle.pgw_link.specs.Tape.{Tape, MovedBy, new_tape}
use Rattle.pgw_link.proofs.LogLaws.{ends_still, foreseen_still}
use Rattle.pgw_backend.specs.declared.client_error.PgWireClientError.{PgWireClientError}
use Rattle.pgw_backend.specs.declared.client_error.PgWireClientError.TheVariants as client
use Rattle.pgw_machine.specs.Course.{sent_of}
use Rattle.pgw_session.specs.declared.types.SessionReport.{SessionReport}
use Rattle.pgw_session.specs.Demands.{refused_config}
use Rattle.pgw_session.specs.Input.{Input}
use Rattle.pgw_session.specs.Talk.{conversation}
use Rattle.pgw_session.proofs.FailureLaws.{told as bytes_told}
use Rattle.pgw_client.specs.Session.{ErrorCause, TellsSession}
use Rattle.pgw_client.specs.SessionSteps.{failed, memory}
use Rattle.pgw_client.proofs.RefusedLaws.{refused_paced}
use Rattle.pgw_dialogue.specs.Demands.{RefusesKey}
use Rattle.pgw_client.specs.OverLink.{LinkSpan, OverLink}

-- what is known to come by fewer facts is said of fewer links
pub foretold_less : {input : Input} {limit : ℕ} {more less : Type 0} {link : LinkSpan}
    {outcome : Result SessionReport PgWireClientError}
    → (less → more) → OverLink input limit more link outcome → OverLink input limit less link outcome
foretold_less known over = record {
  refused = over.refused;
  demands = over.demands;
  cause = over.cause;
  failing = over.failing;
  completed = over.completed;
  causes = over.causes;
  told = over.told;
  paced = over.paced;
  lockstep = over.lockstep;
  flushed = over.flushed;
  session = over.session;
  foreseen = λ f. over.foreseen (known f);
  ends = λ f. over.ends (known f);
  reports = λ f. over.reports (known f);
}

-- as foretold_less, of a link that was new
pub from_fresh : (input : Input) (limit : ℕ) (foretells : Type 0) (link : LinkSpan)
    (outcome : Result SessionReport PgWireClientError)
    → link.old ≡ new_tape → link.before ≡ 0 → OverLink input limit foretells link outcome
    → OverLink input limit foretells
    (record { old = new_tape; new = link.new; was = link.was; is = link.is; before = 0; now = link.now })
    outcome
from_fresh input limit foretells link outcome fresh none over =
    let of : LinkSpan → Type 0 = λ (l : LinkSpan). OverLink input limit foretells l outcome in
    let one =
    subst (λ (t : Tape). of
    (record {
      old = t;
      new = link.new;
      was = link.was;
      is = link.is;
      before = link.before;
      now = link.now;
    })) fresh over in
    subst (λ (n : ℕ). of (record {
      old = new_tape;
      new = link.new;
      was = link.was;
      is = link.is;
      before = n;
      now = link.now;
    })) none one

-- ---- where memory was wanting before the link was used

-- a link that stayed as it was
abbrev pub still : Tape → Option (List ℕ) → ℕ → LinkSpan
still tape left faults = record { old = tape; new = tape; was = left; is = left; before = faults; now = faults }

abbrev pub wanting : Result SessionReport PgWireClientError
wanting = Err client.OutOfMemory

nothing_refused : (o : Option (List ℕ)) (tape : Tape) → o ≡ None
    → IfSome o (λ key. RefusesKey key wanting × (tape ≡ tape))
nothing_refused None tape clear = tt
nothing_refused (Some key) tape clear = cc

nothing_moved : (tape : Tape) (fact : List ℕ → List ℕ → Type 0) → fact [] [] → MovedBy tape tape fact
nothing_moved tape fact holds = ([], [], sym (append-nil tape.took), sym (append-nil tape.wrote), holds)

pub nothing_held : (input : Input) (limit : ℕ) (foretells : Type 0) (tape : Tape) (left : Option (List ℕ))
    (faults : ℕ)
    → refused_config input.config ≡ None → OverLink input limit foretells (still tape left faults) wanting
nothing_held input limit foretells tape left faults clear = record {
  refused = nothing_refused (refused_config input.config) tape clear;
  demands = λ key is. absurd cc;
  cause = record { later = omega arith; io = λ io. absurd cc };
  failing = λ more. absurd (omega (arith, more));
  completed = tt;
  causes = nothing_moved tape (λ taken sent. ErrorCause input limit tape tape taken sent client.OutOfMemory) tt;
  told = λ c. nothing_moved tape (TellsSession input wanting)
      (sent_of (conversation input []), bytes_told input [], tt);
  paced = refused_paced limit tape;
  lockstep = inl refl;
  flushed = λ c other. inl (refl, refl);
  session = λ c. record {
    taken = [];
    took = sym (append-nil tape.took);
    within = omega arith;
    sent = [];
    wrote = sym (append-nil tape.wrote);
    held = record { begins = (sent_of (conversation input []), refl); reason = failed (memory refl) };
    reads = omega arith;
    writes = omega arith;
    paused = inl refl;
    flushed = λ other. inl (refl, refl);
  };
  foreseen = λ f. foreseen_still left tape;
  ends = λ f. ends_still left tape;
  reports = λ f c whole is segments completes no_rise. refl;
}
