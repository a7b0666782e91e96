-- What a session is behind the calls within a call.
use Rattle.std.proofs.Common.{◌≡◌, ◌∙◌, ℕ, Some, None, inl, inr, sym, ap, subst}
use Rattle.pgw_backend.specs.declared.client_error.PgWireClientError.{PgWireClientError as ClientError}
use Rattle.pgw_dialogue.specs.Machine.{report_at}
use Rattle.hothummei_c.specs.declared.held.Held.{Held}
use Rattle.hothummei_c.specs.declared.session.Phase.TheVariants as phase
use Rattle.hothummei_c.specs.declared.session.Session.{Session}
use Rattle.hothummei_c.specs.Held.{dialogue_of}
use Rattle.hothummei_c.specs.Report.{kept_report}
use Rattle.hothummei_c.specs.Session.{HandleFails, FinishesReport, handed_on, is_over}

-- what is to be sent stays
pub fails_out : (mid new : Session) (e : ClientError) (result : ℕ) → HandleFails mid new e result
    → new.out.items ≡ mid.out.items
fails_out mid new e result w = ap (λ (s : Session). s.out.items) w.1

pub finishes_out : (mid new : Session) (h : Held) (result : ℕ) → FinishesReport mid new h result
    → new.out.items ≡ mid.out.items
finishes_out mid new h result (inl w) = ap (λ (s : Session). s.out.items) w.1
finishes_out mid new h result (inr w) = ap (λ (s : Session). s.out.items) w.1

-- the dialogue was over, with what it had put out, when the session failed
pub fails_over : (old mid new : Session) (e : ClientError) (result : ℕ)
    → mid ≡ record old { held = None; out = mid.out } → HandleFails mid new e result
    → HandleFails (is_over old new) new e result
fails_over old mid new e result is w =
    let by_mid =
    w.1 ∙ ap (λ (s : Session). record s { phase = phase.Failed; fault = Some e; sentence = new.sentence }) is
    in (
      w.0,
      subst (λ (s : Session). new ≡ record old
          { held = None; out = s.out; phase = phase.Failed; fault = Some e; sentence = new.sentence }) (sym w.1) by_mid,
    )

-- or when its report was made
pub finishes_over : (old mid new : Session) (h : Held) (result : ℕ)
    → mid ≡ record old { held = None; out = mid.out } → FinishesReport mid new h result
    → FinishesReport (is_over old new) new h result
finishes_over old mid new h result is (inl w) =
    let by_mid =
    w.1 ∙ ap (λ (s : Session). record s
    { phase = phase.Done; report = Some (kept_report (report_at (dialogue_of h).notes)) }) is in
    inl (
      w.0,
      subst (λ (s : Session). new ≡ record old {
        held = None;
        out = s.out;
        phase = phase.Done;
        report = Some (kept_report (report_at (dialogue_of h).notes));
      }) (sym w.1) by_mid,
    )
finishes_over old mid new h result is (inr w) =
    let by_mid = w.1 ∙ ap (λ (s : Session). record s { phase = phase.Failed }) is in
    inr (
      w.0,
      subst (λ (s : Session). new ≡ record old { held = None; out = s.out; phase = phase.Failed })
          (sym w.1) by_mid,
    )

-- what it was made for was gone when the session failed
pub fails_handed : (old mid new : Session) (e : ClientError) (result : ℕ)
    → mid ≡ record old { config = mid.config; requests = mid.requests; out = mid.out }
    → HandleFails mid new e result → HandleFails (handed_on old new) new e result
fails_handed old mid new e result is w =
    let by_mid =
    w.1 ∙ ap (λ (s : Session). record s { phase = phase.Failed; fault = Some e; sentence = new.sentence }) is
    in (
      w.0,
      subst (λ (s : Session). new ≡ record old {
        config = s.config;
        requests = s.requests;
        out = s.out;
        phase = phase.Failed;
        fault = Some e;
        sentence = new.sentence;
      }) (sym w.1) by_mid,
    )
