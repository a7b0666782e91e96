-- Whatever it was given in, a dialogue stands for one list of bytes put out.
use Rattle.std.proofs.Common.{◌≡◌, ◌<◌, ◌⊎◌, ℕ, List, [], ◌++◌, length, Some, None, inl, inr, arith, refl, ◌∙◌, ap, sym, subst}
use Rattle.std.proofs.lemmas.List.{append-nil}
use Rattle.pgw_backend.specs.declared.client_error.PgWireClientError.{PgWireClientError as ClientError}
use Rattle.pgw_machine.specs.Course.{Course, Waits, Over, sent_of}
use Rattle.pgw_session.specs.Input.{Input}
use Rattle.pgw_session.specs.Failures.{BytesTell, WaitsStill}
use Rattle.pgw_session.specs.Machine.{Complete, error_of}
use Rattle.pgw_session.specs.Talk.{Talk, Ending, conversation}
use Rattle.pgw_session.specs.Transcript.{Completed, report_of}
use Rattle.pgw_session.proofs.FailureLaws as failures
use Rattle.pgw_dialogue.specs.Machine.{notes_end, report_at, talk_end}
use Rattle.pgw_dialogue.specs.declared.dialogue.Dialogue.{Dialogue}
use Rattle.pgw_dialogue.specs.declared.phase.State.{State}
use Rattle.pgw_dialogue.specs.declared.phase.State.TheVariants as state
use Rattle.pgw_dialogue.specs.Answers.{taken_of}
use Rattle.pgw_dialogue.specs.Dialogue.{Awaits, IsDone, IsStarved, Stands, StandsIn}
use Rattle.pgw_dialogue.proofs.DialogueLaws.{stands_in, taken_below}

-- ---- what is put out

-- all that is sent in the conversation of the bytes taken
sent_by : (s : State) (d : Dialogue) (input : Input) (limit : ℕ) (given put : List ℕ)
    → StandsIn s d input limit given put → (s ≡ state.Starved → ⊥)
    → sent_of (conversation input (taken_of limit given)) ≡ put
sent_by state.Going d input limit given put h not =
    ap (λ (b : List ℕ). sent_of (conversation input b)) (taken_below limit given (omega (arith, h.3)))
    ∙ ap sent_of h.1
sent_by state.Done d input limit given put h not = ap sent_of h.1
sent_by state.Refused d input limit given put (inl h) not = ap sent_of h.2
sent_by state.Refused d input limit given put (inr h) not = ap sent_of (h.0).2
sent_by state.Starved d input limit given put h not = absurd (not refl)

pub sent_is : (input : Input) (limit : ℕ) (d : Dialogue) (given put : List ℕ) → Stands input limit d given put
    → (IsStarved d → ⊥) → sent_of (conversation input (taken_of limit given)) ≡ put
sent_is input limit d given put h not = sent_by d.state d input limit given put h.stands not

begins_by : (s : State) (d : Dialogue) (input : Input) (limit : ℕ) (given put : List ℕ)
    → StandsIn s d input limit given put
    → (unsent : List ℕ) × (sent_of (conversation input (taken_of limit given)) ≡ put ++ unsent)
    × ((s ≡ state.Starved) ⊎ (unsent ≡ []))
begins_by state.Starved d input limit given put h = (h.0, h.1, inl refl)
begins_by state.Going d input limit given put h =
    ([], sent_by state.Going d input limit given put h (λ e. cc) ∙ sym (append-nil put), inr refl)
begins_by state.Done d input limit given put h =
    ([], sent_by state.Done d input limit given put h (λ e. cc) ∙ sym (append-nil put), inr refl)
begins_by state.Refused d input limit given put h =
    ([], sent_by state.Refused d input limit given put h (λ e. cc) ∙ sym (append-nil put), inr refl)

pub told : (input : Input) (limit : ℕ) (d : Dialogue) (given put : List ℕ) → Stands input limit d given put
    → (unsent : List ℕ) × BytesTell input (taken_of limit given) (put ++ unsent) × (IsStarved d ⊎ (unsent ≡ []))
told input limit d given put h =
    let b = begins_by d.state d input limit given put h.stands in
    (b.0, subst (BytesTell input (taken_of limit given)) b.1 (failures.told input (taken_of limit given)), b.2)

-- ---- where it is

pub awaits_still : (input : Input) (limit : ℕ) (d : Dialogue) (given put : List ℕ) → Awaits d
    → Stands input limit d given put → WaitsStill input given put × (length given < limit)
awaits_still input limit d given put awaits h =
    let g = stands_in input limit d given put state.Going awaits.0 h in
    (failures.waits_still input given put d.inbox g.0 g.1, omega (arith, g.3, awaits.1))

pub done_completed : (input : Input) (limit : ℕ) (d : Dialogue) (given put : List ℕ) → IsDone d
    → Stands input limit d given put → Completed input (taken_of limit given) put (report_at d.notes)
done_completed input limit d given put is h =
    let x = stands_in input limit d given put state.Done is h in
    subst (Completed input (taken_of limit given) put) (sym x.2)
    (failures.complete_is_completed input (taken_of limit given) put _ x.1 refl)

-- where the conversation is whole, it is done
no_error : {e : ClientError} {ending : Ending} (t : Talk) {put out : List ℕ} (c : Course Talk Ending)
    → c ≡ Over ending put → error_of ending.outcome ≡ Some e
    → c ≡ Over (record { notes = t; outcome = Complete }) out → ⊥
no_error {e} {ending} t {put} {out} c is why whole =
    let same : Over ending put ≡ Over (record { notes = t; outcome = Complete }) out = sym is ∙ whole in
    let outcome : ending.outcome ≡ Complete = cc in
    let none : None ≡ Some e = sym (ap error_of outcome) ∙ why in
    cc

-- where it is, or ended
abbrev talk_in : Course Talk Ending → Talk
talk_in (Waits t sent pending) = t
talk_in (Over ending sent) = ending.notes

pub whole_by : (s : State) (d : Dialogue) (input : Input) (limit : ℕ) (given put out : List ℕ) (t : Talk)
    → StandsIn s d input limit given put → (s ≡ state.Starved → ⊥)
    → conversation input (taken_of limit given) ≡ Over (record { notes = t; outcome = Complete }) out
    → (s ≡ state.Done) × (report_at d.notes ≡ report_of input t.closed)
whole_by state.Going d input limit given put out t h not is =
    let waits : conversation input (taken_of limit given) ≡ Waits h.0 put d.inbox =
    ap (conversation input) (taken_below limit given (omega (arith, h.3))) ∙ h.1 in
    absurd (let e = sym waits ∙ is in cc)
whole_by state.Done d input limit given put out t h not is =
    let same : Over (record { notes = h.0; outcome = Complete }) put ≡ Over
    (record { notes = t; outcome = Complete }) out = sym h.1 ∙ is in
    let talks : h.0 ≡ t = ap talk_in same in
    (refl, h.2 ∙ ap (λ (x : Talk). report_of input x.closed) talks)
whole_by state.Refused d input limit given put out t (inl h) not is =
    absurd (no_error t (conversation input (taken_of limit given)) h.2 h.3 is)
whole_by state.Refused d input limit given put out t (inr h) not is = absurd (let e = sym (h.0).2 ∙ is in cc)
whole_by state.Starved d input limit given put out t h not is = absurd (not refl)

-- where it waits, below the limit, the dialogue does too
pub waits_by : (s : State) (d : Dialogue) (input : Input) (limit : ℕ) (given put out pending : List ℕ) (t : Talk)
    → StandsIn s d input limit given put → (s ≡ state.Starved → ⊥) → length given < limit
    → conversation input given ≡ Waits t out pending
    → (s ≡ state.Going) × (0 < d.room) × (notes_end d.notes ≡ talk_end t)
waits_by state.Going d input limit given put out pending t h not below is =
    let same : Waits h.0 put d.inbox ≡ Waits t out pending = sym h.1 ∙ is in
    let talks : h.0 ≡ t = ap talk_in same in
    (refl, omega (arith, h.3, below), ap notes_end h.2 ∙ ap talk_end talks)
waits_by state.Done d input limit given put out pending t h not below is =
    absurd (let e = sym (ap (conversation input) (taken_below limit given (omega (arith, below))) ∙ is)
    ∙ h.1 in cc)
waits_by state.Refused d input limit given put out pending t (inl h) not below is =
    absurd (let e = sym (ap (conversation input) (taken_below limit given (omega (arith, below))) ∙ is)
    ∙ h.2 in cc)
waits_by state.Refused d input limit given put out pending t (inr h) not below is =
    absurd (omega (arith, h.1, below))
waits_by state.Starved d input limit given put out pending t h not below is = absurd (not refl)
