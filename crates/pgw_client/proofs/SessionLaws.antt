-- What a session leaves, in the terms of transcripts.
use Rattle.std.proofs.Common.{◌≡◌, ◌<◌, ◌+◌, ℕ, List, [], ◌∷◌, ◌++◌, length, Option, Some, None, Result, Ok, Err, inl, inr, arith, refl, ◌∙◌, ap, sym, subst}
use Rattle.std.proofs.lemmas.List.{append-nil, append_cancel_left}
use Rattle.std.specs.Prelude.{IfOk, IsErrOf}
use Rattle.pgw_backend.specs.declared.backend.PgWireBackendMessage.{PgWireBackendMessage as Backend}
use Rattle.pgw_query.specs.Rows.{ErrorResponse}
use Rattle.pgw_backend.specs.declared.client_error.PgWireClientError.{PgWireClientError as ClientError}
use Rattle.pgw_backend.specs.declared.client_error.PgWireClientError.TheVariants as client
use Rattle.pgw_link.specs.Tape.{Tape, MovedBy}
use Rattle.pgw_link.specs.Foresight.{TapeEnds, Foreseen}
use Rattle.pgw_machine.specs.Course.{Waits, Over, sent_of}
use Rattle.pgw_session.specs.declared.types.SessionReport.{SessionReport}
use Rattle.pgw_session.specs.Demands.{refused_config}
use Rattle.pgw_session.specs.Events.{Event}
use Rattle.pgw_session.specs.Input.{Input}
use Rattle.pgw_session.specs.Answers.{tally_of}
use Rattle.pgw_session.specs.Transcript.{Completed, Completes, report_of}
use Rattle.pgw_session.specs.Failures.{LeftWith, BytesTell}
use Rattle.pgw_session.specs.Faults.{IsStartupError}
use Rattle.pgw_session.specs.Machine.{Outcome, Complete, Unencoded, Unexpected, Unread, Refused, error_of, end_with}
use Rattle.pgw_session.specs.Talk.{Talk, Ending, conversation, first_passed}
use Rattle.pgw_session.proofs.Complete.{ended_whole, never_waits}
use Rattle.pgw_session.proofs.FailureLaws.{complete_is_completed, ended_misplaced, ended_refused, ended_unread, unencoded, unfinished, misplaced_left, left_with, waits_still}
use Rattle.pgw_session.proofs.FailureLaws as failures
use Rattle.pgw_session.proofs.FaultLaws.{startup_error}
use Rattle.pgw_client.specs.SessionSteps.{LinkSession, Reason, memory, unsent, stopped, failed, unread, at_limit, at_end}
use Rattle.pgw_dialogue.specs.Machine.{talk_end}
use Rattle.pgw_client.specs.Session.{ErrorCause, Causes, HasEnded, InLockstep, KeepsPace, LeavesUnsent, AnswersReport, TellsSession}
use Rattle.pgw_session.specs.Failures.{IsRefused}

-- ---- causes

-- an error that stands for a message at startup
refused_as : (input : Input) (limit : ℕ) (old new : Tape) (taken sent : List ℕ) (e : ClientError)
    → refused_config input.config ≡ None → IsStartupError e → IsRefused input taken sent e
    → ErrorCause input limit old new taken sent e
refused_as input limit old new taken sent (client.InvalidConfig key) none may c = inr (none, c)
refused_as input limit old new taken sent (client.PgWireError why) none may c = inr c
refused_as input limit old new taken sent (client.RemoteError e) none may c = inl c
refused_as input limit old new taken sent (client.ScramError e) none may c = c
refused_as input limit old new taken sent (client.UnsupportedSASLAuthMethods e) none may c = c
refused_as input limit old new taken sent e none may c = absurd may

-- an error with which the conversation ended
ended_as : (input : Input) (limit : ℕ) (old new : Tape) (taken sent : List ℕ) (ending : Ending) (o : Outcome)
    (e : ClientError)
    → refused_config input.config ≡ None
    → conversation input taken ≡ Over ending sent → ending.outcome ≡ o → error_of o ≡ Some e
    → ErrorCause input limit old new taken sent e
ended_as input limit old new taken sent ending Complete e none is outcome why = cc
ended_as input limit old new taken sent ending (Unencoded w) e none is outcome why =
    let u = unencoded input taken sent ending w is outcome in
    let same : client.PgWireError w ≡ e = cc in
    subst (ErrorCause input limit old new taken sent) same (inl (inr u.0, u.1))
ended_as input limit old new taken sent ending (Unread w) e none is outcome why =
    let u = ended_unread input taken sent ending w is outcome in
    let same : client.PgWireError w ≡ e = cc in
    subst (ErrorCause input limit old new taken sent) same (inl (inl u.0, u.1))
ended_as input limit old new taken sent ending (Unexpected m) e none is outcome why =
    let same : client.UnexpectedMessage m ≡ e = cc in
    subst (ErrorCause input limit old new taken sent) same
    (ended_misplaced input (HasEnded limit taken old new) taken sent ending m is outcome)
ended_as input limit old new taken sent ending (Refused x) e none is outcome why =
    let same : x ≡ e = cc in
    let u = ended_refused input taken sent ending x is outcome in
    subst (ErrorCause input limit old new taken sent) same
    (refused_as input limit old new taken sent x none (startup_error input taken sent x u.0) u)

-- the error of the link's end
end_as : (input : Input) (limit : ℕ) (old new : Tape) (taken sent pending : List ℕ) (t : Talk)
    (o : Option Backend) (r : Option ErrorResponse)
    → first_passed t.passed ≡ o → (tally_of t.open_events).remote ≡ r
    → conversation input taken ≡ Waits t sent pending → HasEnded limit taken old new
    → ErrorCause input limit old new taken sent (end_with o r)
end_as input limit old new taken sent pending t (Some m) r first remote is end =
    misplaced_left input (HasEnded limit taken old new) taken sent pending t m is first end
end_as input limit old new taken sent pending t None (Some e) first remote is end =
    inr (
      subst (LeftWith input taken sent) remote (left_with input taken sent pending t is first),
      unfinished
          input taken sent pending t is,
      end,
    )
end_as input limit old new taken sent pending t None None first remote is end = (
  subst (LeftWith input taken sent) remote (left_with input taken sent pending t is first),
  unfinished input
      taken sent pending t is,
  end,
)

caused_by : (input : Input) (limit : ℕ) (old : Tape) {new : Tape} (taken sent more : List ℕ) {e : ClientError}
    → refused_config input.config ≡ None → sent_of (conversation input taken) ≡ sent ++ more
    → Reason talk_end (conversation input taken) sent (length old.wrote) taken limit old new e
    → ErrorCause input limit old new taken sent e
caused_by input limit old {new} taken sent more none begins (failed (memory is)) =
    subst (ErrorCause input limit old new taken sent) (sym is) tt
caused_by input limit old {new} taken sent more none begins (failed (unsent io short)) =
    let less = subst (λ (l : List ℕ). new.flushed < length old.wrote + length l) begins short in
    subst (ErrorCause input limit old new taken sent) (sym io)
    (inl (more, subst (BytesTell input taken) begins (failures.told input taken), less))
caused_by input limit old {new} taken sent more {e} none begins (failed (stopped ending is why)) =
    ended_as input limit old new taken sent ending ending.outcome e none is refl why
caused_by input limit old {new} taken sent more none begins (unread io waiting) =
    subst (ErrorCause input limit old new taken sent) (sym io)
    (inr (waits_still input taken sent waiting.1 waiting.0 waiting.2))
caused_by input limit old {new} taken sent more none begins (at_limit is waiting at) =
    subst (ErrorCause input limit old new taken sent) (sym is)
    (waits_still input taken sent waiting.1 waiting.0 waiting.2, at)
caused_by input limit old {new} taken sent more none begins (at_end state pending is end means) =
    subst (ErrorCause input limit old new taken sent) (sym means)
    (end_as input limit old new taken sent pending state (first_passed state.passed)
    (tally_of state.open_events).remote refl refl is end)

-- each error has its cause
pub causes : (input : Input) (limit : ℕ) (old new : Tape) (result : Result SessionReport ClientError)
    → refused_config input.config ≡ None → LinkSession input limit old new result
    → Causes input limit old new result
causes input limit old new (Ok report) none s = tt
causes input limit old new (Err e) none s =
    let b = (s.held).begins in
    (s.taken, s.sent, s.took, s.wrote, caused_by input limit old s.taken s.sent b.0 none b.1 (s.held).reason)

-- ---- what was written

-- all of it, where no call failed and memory sufficed
all_sent : (input : Input) {limit before : ℕ} {old new : Tape} (taken sent more : List ℕ) (e : ClientError)
    → sent_of (conversation input taken) ≡ sent ++ more
    → Reason talk_end (conversation input taken) sent before taken limit old new e
    → (e ≡ client.IoError → ⊥) → (e ≡ client.OutOfMemory → ⊥) → sent_of (conversation input taken) ≡ sent
all_sent input taken sent more e begins (failed (memory is)) no_io no_lack = absurd (no_lack is)
all_sent input taken sent more e begins (failed (unsent io short)) no_io no_lack = absurd (no_io io)
all_sent input taken sent more e begins (failed (stopped ending is why)) no_io no_lack = ap sent_of is
all_sent input taken sent more e begins (unread io waiting) no_io no_lack = absurd (no_io io)
all_sent input taken sent more e begins (at_limit is waiting at) no_io no_lack = ap sent_of waiting.2
all_sent input taken sent more e begins (at_end state pending is end means) no_io no_lack = ap sent_of is

tells : (input : Input) (result : Result SessionReport ClientError) (taken sent more : List ℕ)
    → sent_of (conversation input taken) ≡ sent ++ more → LeavesUnsent result more
    → TellsSession input result taken sent
tells input result taken sent more begins leaves =
    (more, subst (BytesTell input taken) begins (failures.told input taken), leaves)

tells_by : (input : Input) {limit before : ℕ} {old new : Tape} (taken sent more : List ℕ) (e : ClientError)
    → sent_of (conversation input taken) ≡ sent ++ more
    → Reason talk_end (conversation input taken) sent before taken limit old new e
    → TellsSession input (Err e) taken sent
tells_by input taken sent more client.IoError begins why =
    tells input (Err client.IoError) taken sent more begins tt
tells_by input taken sent more client.OutOfMemory begins why =
    tells input (Err client.OutOfMemory) taken sent more begins tt
tells_by input taken sent more e begins why =
    tells input (Err e) taken sent [] (all_sent input taken sent more e begins why (λ is. cc) (λ is. cc)
    ∙ sym (append-nil sent)) refl

-- whatever the answer, the bytes taken are those of a legal prefix
pub told : (input : Input) (limit : ℕ) (old new : Tape) (result : Result SessionReport ClientError)
    → LinkSession input limit old new result → MovedBy old new (TellsSession input result)
told input limit old new (Ok report) s = (
  s.taken,
  s.sent,
  s.took,
  s.wrote,
  tells input (Ok report) s.taken s.sent [] (ap sent_of (s.held).1
      ∙ sym (append-nil s.sent)) refl,
)
told input limit old new (Err e) s =
    let b =
    (s.held).begins in (s.taken, s.sent, s.took, s.wrote, tells_by input s.taken s.sent b.0 e b.1 (s.held).reason)

pub paced : (input : Input) (limit : ℕ) (old new : Tape) (result : Result SessionReport ClientError)
    → LinkSession input limit old new result → MovedBy old new (KeepsPace limit old new)
paced input limit old new result s =
    (s.taken, s.sent, s.took, s.wrote, record { within = s.within; reads = s.reads; writes = s.writes })

pub lockstep : (input : Input) (limit : ℕ) (old new : Tape) (result : Result SessionReport ClientError)
    → LinkSession input limit old new result → InLockstep input old new
lockstep input limit old new result s = elim s.paused [
  | inl same ↦ inl same
  | inr p ↦ inr (p.0, (s.taken, s.sent, s.took, s.wrote, waits_still input s.taken s.sent (p.1).1 (p.1).0 (p.1).2))
]

-- ---- the report

-- an answer is that of a completed session
pub completed : (input : Input) (limit : ℕ) (old new : Tape) (result : Result SessionReport ClientError)
    → LinkSession input limit old new result
    → IfOk result (λ report. MovedBy old new (λ taken sent. Completed input taken sent report))
completed input limit old new (Err e) s = tt
completed input limit old new (Ok report) s =
    let h = s.held in
    let done = complete_is_completed input s.taken s.sent (record { notes = h.0; outcome = Complete }) h.1 refl in
    (s.taken, s.sent, s.took, s.wrote, subst (Completed input s.taken s.sent) (sym h.2) done)

-- what was taken is the front of what was to come, and the rest is known
pub known_rest : {old new : Tape} {is : Option (List ℕ)} (whole taken : List ℕ) → Foreseen (Some whole) is old new
    → new.took ≡ old.took ++ taken → (rest : List ℕ) × (is ≡ Some rest) × (whole ≡ taken ++ rest)
known_rest {old} {new} {is = None} whole taken f took = absurd f.consumes
known_rest {old} {new} {is = Some rest} whole taken f took = (
  rest,
  refl,
  subst (λ (t : List ℕ). whole ≡ t ++ rest) (append_cancel_left old.took f.taken taken (sym f.took
      ∙ took)) f.consumes,
)

-- where the end was answered, nothing is to come any more
pub nothing_left : {old new : Tape} {rest : List ℕ} (limit : ℕ) (taken : List ℕ) → TapeEnds (Some rest) old new
    → HasEnded limit taken old new → rest ≡ []
nothing_left {old} {new} limit taken ends end =
    let same = append_cancel_left old.ended ends.answers ((end.asked).0 ∷ []) (sym ends.ended ∙ (end.asked).1) in
    ends.at_end (omega (arith, ap length same))

only_memory : (input : Input) (limit before : ℕ) (old : Tape) {new : Tape} (segments : List (List Event))
    {e : ClientError} (whole taken rest : List ℕ) {sent : List ℕ}
    → Completes input limit whole segments → whole ≡ taken ++ rest → TapeEnds (Some rest) old new
    → Reason talk_end (conversation input taken) sent before taken limit old new e
    → (e ≡ client.IoError → ⊥) → e ≡ client.OutOfMemory
only_memory input limit before old segments whole taken rest c left ends (failed (memory is)) no_io = is
only_memory input limit before old segments whole taken rest c left ends (failed (unsent io short)) no_io = absurd
    (no_io io)
only_memory input limit before old {new} segments whole taken rest {sent} c left ends
    (failed (stopped ending is why)) no_io =
    let same = ended_whole input limit whole taken rest sent ending segments left c is in
    let none = ap (λ (x : Ending). error_of x.outcome) same in
    cc
only_memory input limit before old segments whole taken rest c left ends (unread io waiting) no_io = absurd
    (no_io io)
only_memory input limit before old {new} segments whole taken rest {sent} c left ends (at_limit is waiting at)
    no_io =
    absurd (never_waits input limit whole taken rest sent waiting.1 waiting.0 segments left c (inl at) waiting.2)
only_memory input limit before old {new} segments whole taken rest {sent} c left ends
    (at_end state pending is end means) no_io =
    absurd (never_waits input limit whole taken rest sent pending state segments left c
    (inr (nothing_left limit taken ends end)) is)

-- a session that can complete reports, or memory is wanting
pub reports : (input : Input) (limit : ℕ) (old new : Tape) (was is : Option (List ℕ))
    (result : Result SessionReport ClientError) (whole : List ℕ) (segments : List (List Event))
    → LinkSession input limit old new result
    → was ≡ Some whole → Foreseen was is old new → TapeEnds is old new → Completes input limit whole segments
    → (IsErrOf result client.IoError → ⊥) → AnswersReport (report_of input segments) result
reports input limit old new was is (Err e) whole segments s known f ends c no_io =
    let r = known_rest whole s.taken (subst (λ o. Foreseen o is old new) known f) s.took in
    only_memory input limit (length old.wrote) old segments whole s.taken r.0 c r.2
    (subst (λ o. TapeEnds o old new) r.1 ends) (s.held).reason (λ io. no_io (ap Err io))
reports input limit old new was is (Ok report) whole segments s known f ends c no_io =
    let h = s.held in
    let r = known_rest whole s.taken (subst (λ o. Foreseen o is old new) known f) s.took in
    let same =
    ended_whole input limit whole s.taken r.0 s.sent (record { notes = h.0; outcome = Complete }) segments r.2
    c h.1 in
    h.2 ∙ ap (λ (x : Ending). report_of input (x.notes).closed) same
