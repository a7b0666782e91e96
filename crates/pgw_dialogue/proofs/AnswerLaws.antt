-- What an answer tells, in the terms of transcripts.
use Rattle.std.proofs.Common.{◌≡◌, ◌≤◌, ℕ, zero, suc, List, [], ◌∷◌, length, Some, Ok, inl, inr, refl, subst}
use Rattle.pgw_backend.specs.declared.client_error.PgWireClientError.{PgWireClientError as ClientError}
use Rattle.pgw_backend.specs.declared.client_error.PgWireClientError.TheVariants as client
use Rattle.pgw_session.specs.Failures.{IsRefused}
use Rattle.pgw_machine.specs.Course.{Waits, Over}
use Rattle.pgw_session.specs.Events.{Event}
use Rattle.pgw_session.specs.Faults.{IsStartupError}
use Rattle.pgw_session.specs.Failures.{WaitsAt}
use Rattle.pgw_session.specs.Input.{Input}
use Rattle.pgw_session.specs.Machine.{Outcome, Complete, Unencoded, Unexpected, Unread, Refused, error_of}
use Rattle.pgw_session.specs.Talk.{Talk, Ending, conversation}
use Rattle.pgw_session.specs.Transcript.{report_of}
use Rattle.pgw_session.proofs.FailureLaws.{complete_is_completed, ended_misplaced, ended_refused, ended_unread, unencoded, unfinished, waits_at, waits_still}
use Rattle.pgw_session.proofs.FaultLaws.{startup_error}
use Rattle.pgw_dialogue.specs.declared.phase.DialoguePhase.TheVariants as phase
use Rattle.pgw_dialogue.specs.Answers.{taken_of, TakeCause, Tells, TellsPhase, waiting_answer}

-- ---- errors

-- an error that stands for a message at startup
refused_as : (input : Input) (limit : ℕ) (given put : List ℕ) (e : ClientError) → IsStartupError e
    → IsRefused input (taken_of limit given) put e → TakeCause input limit given put e
refused_as input limit given put (client.InvalidConfig key) may c = c
refused_as input limit given put (client.PgWireError why) may c = inr c
refused_as input limit given put (client.RemoteError e) may c = c
refused_as input limit given put (client.ScramError e) may c = c
refused_as input limit given put (client.UnsupportedSASLAuthMethods e) may c = c
refused_as input limit given put e may c = absurd may

-- the error with which the conversation ended
pub ended_as : (input : Input) (limit : ℕ) (given put : List ℕ) (ending : Ending) (o : Outcome) (e : ClientError)
    → conversation input (taken_of limit given) ≡ Over ending put → ending.outcome ≡ o → error_of o ≡ Some e
    → TakeCause input limit given put e
ended_as input limit given put ending Complete e is outcome why = cc
ended_as input limit given put ending (Unencoded w) e is outcome why =
    let u = unencoded input (taken_of limit given) put ending w is outcome in
    let same : client.PgWireError w ≡ e = cc in
    subst (TakeCause input limit given put) same (inl (inr u.0, u.1))
ended_as input limit given put ending (Unread w) e is outcome why =
    let u = ended_unread input (taken_of limit given) put ending w is outcome in
    let same : client.PgWireError w ≡ e = cc in
    subst (TakeCause input limit given put) same (inl (inl u.0, u.1))
ended_as input limit given put ending (Unexpected m) e is outcome why =
    let same : client.UnexpectedMessage m ≡ e = cc in
    subst (TakeCause input limit given put) same
    (ended_misplaced input ⊥ (taken_of limit given) put ending m is outcome)
ended_as input limit given put ending (Refused x) e is outcome why =
    let same : x ≡ e = cc in
    let u = ended_refused input (taken_of limit given) put ending x is outcome in
    subst (TakeCause input limit given put) same
    (refused_as input limit given put x (startup_error input (taken_of limit given) put x u.0) u)

-- ---- phases

in_startup : (input : Input) (taken put pending : List ℕ) (t : Talk) (closed : List (List Event))
    → conversation input taken ≡ Waits t put pending → t.closed ≡ closed → length closed ≡ 0
    → TellsPhase input taken put phase.Waiting
in_startup input taken put pending t [] is are none = (
  t.open_events,
  t.passed,
  subst (λ (c : List (List Event)). WaitsAt input taken put c t.open_events t.passed)
      are (waits_at input taken put pending t is),
  unfinished input taken put pending t is,
)
in_startup input taken put pending t (first ∷ closed) is are none = absurd (cc)

behind_startup : (input : Input) (taken put pending : List ℕ) (t : Talk) (closed : List (List Event)) (k : ℕ)
    → conversation input taken ≡ Waits t put pending → t.closed ≡ closed → length closed ≡ suc k
    → TellsPhase input taken put phase.Ready
behind_startup input taken put pending t [] k is are some = absurd (cc)
behind_startup input taken put pending t (first ∷ closed) k is are some = (
  first,
  closed,
  t.open_events,
  t.passed,
  subst
      (λ (c : List (List Event)). WaitsAt input taken put c t.open_events t.passed) are
      (waits_at input taken put pending t is),
  unfinished input taken put pending t is,
)

-- the conversation waits
pub waiting_tells : (input : Input) (limit : ℕ) (given put pending : List ℕ) (t : Talk) (room closed : ℕ)
    → conversation input (taken_of limit given) ≡ Waits t put pending → length t.closed ≡ closed
    → (room ≡ 0 → limit ≤ length given) → Tells input limit given put (waiting_answer room closed)
waiting_tells input limit given put pending t zero closed is count full =
    (waits_still input (taken_of limit given) put pending t is, full refl)
waiting_tells input limit given put pending t (suc room) zero is count full =
    in_startup input (taken_of limit given) put pending t t.closed is refl count
waiting_tells input limit given put pending t (suc room) (suc closed) is count full =
    behind_startup input (taken_of limit given) put pending t t.closed closed is refl count

-- it has ended whole
pub done_tells : (input : Input) (limit : ℕ) (given put : List ℕ) (t : Talk)
    → conversation input (taken_of limit given) ≡ Over (record { notes = t; outcome = Complete }) put
    → Tells input limit given put (Ok phase.Done)
done_tells input limit given put t is = (
  report_of input t.closed,
  complete_is_completed input (taken_of limit given) put
      (record { notes = t; outcome = Complete }) is refl,
)
