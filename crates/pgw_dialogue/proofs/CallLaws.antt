-- The calls of a dialogue: what they start from, and what they leave.
use Rattle.std.proofs.Common.{◌≡◌, ℕ, List, [], ◌∷◌, ◌++◌, Some, None, Result, Ok, Err, inl, inr, arith, refl, ◌∙◌, ap, sym, subst}
use Rattle.pgw_types.specs.declared.error.PgWireError.{PgWireError}
use Rattle.pgw_backend.specs.declared.client_error.PgWireClientError.{PgWireClientError as ClientError}
use Rattle.pgw_backend.specs.declared.client_error.PgWireClientError.TheVariants as client
use Rattle.pgw_machine.specs.Course.{Waits, Over, onto}
use Rattle.pgw_frontend.specs.Frontend.{encodings}
use Rattle.pgw_session.specs.declared.notes.Notes.{Notes}
use Rattle.pgw_session.specs.Demands.{refused_config}
use Rattle.pgw_session.specs.Failures.{EndsAs}
use Rattle.pgw_session.specs.Input.{Input}
use Rattle.pgw_session.specs.Machine.{End, Unencoded, error_of, sending}
use Rattle.pgw_session.specs.Segments.{startup_message}
use Rattle.pgw_session.specs.Talk.{conversation}
use Rattle.pgw_session.proofs.FailureLaws.{ends_as}
use Rattle.pgw_dialogue.specs.Demands.{ChecksDemand, IsInvalidConfig}
use Rattle.pgw_dialogue.specs.Machine.{notes_end, StartsRun}
use Rattle.pgw_dialogue.specs.Wire.{Unless}
use Rattle.pgw_dialogue.proofs.DemandLaws.{refused_key}
use Rattle.pgw_dialogue.proofs.WireLaws.{memory_or}
use Rattle.pgw_dialogue.specs.declared.dialogue.Dialogue.{Dialogue}
use Rattle.pgw_dialogue.specs.declared.phase.State.TheVariants as state
use Rattle.pgw_dialogue.specs.Dialogue.{Awaits, input_at, Stands, StartCause, Starts}
use Rattle.pgw_dialogue.proofs.DialogueLaws.{stands_as, stands_in}
use Rattle.pgw_dialogue.proofs.TalkLaws.{start_is, waits_in}

-- ---- the beginning

put_out : (first second notes : Notes) (o : Result (List ℕ) PgWireError) (out : List ℕ)
    → onto [] (sending first second o) ≡ Waits notes out [] → o ≡ Ok out
put_out first second notes (Err e) out is = cc
put_out first second notes (Ok bytes) out is = ap Ok (cc)

unencoded : (first second : Notes) (end : End Notes) (o : Result (List ℕ) PgWireError) (e : ClientError)
    → onto [] (sending first second o) ≡ Over end [] → error_of end.outcome ≡ Some e
    → (why : PgWireError) × (o ≡ Err why) × (client.PgWireError why ≡ e)
unencoded first second end (Ok bytes) e is why = cc
unencoded first second end (Err w) e is why =
    let same : Over (record { notes = first; outcome = Unencoded w }) [] ≡ Over end [] = is in
    let outcome : Unencoded w ≡ end.outcome = cc in
    let told : Some (client.PgWireError w) ≡ Some e = ap error_of outcome ∙ why in
    (w, refl, cc)

pub starts : (input : Input) (limit : ℕ) (d : Dialogue) (opening old_out new_out : List ℕ)
    → StartsRun input opening (Ok d.notes) → new_out ≡ old_out ++ opening → input_at d ≡ input → d.inbox ≡ []
    → d.room ≡ limit → d.state ≡ state.Going
    → Starts input limit old_out new_out (Ok d)
starts input limit d opening old_out new_out started put made empty room going =
    let w = waits_in input (conversation input []) d.notes opening [] (sym (start_is input) ∙ started) in (
      opening,
      put_out _ _ d.notes (encodings (startup_message input ∷ [])) opening started,
      put,
      stands_as input limit d [] opening state.Going made going (
        w.0,
        w.1
            ∙ ap (Waits w.0 opening) (sym empty),
        w.2,
        omega (arith, room),
      ),
      going,
      room,
    )

pub not_started : (input : Input) (opening old_out : List ℕ) (e : ClientError)
    → refused_config input.config ≡ None → StartsRun input opening (Err e)
    → Starts input 0 old_out old_out (Err e)
not_started input opening old_out e none started = (
  refl,
  elim (memory_or e) [
    | inl is ↦ subst (StartCause input) (sym is) tt
    | inr ne ↦
        let s = started.1 ne in
        let u = unencoded _ _ s.0 (encodings (startup_message input ∷ [])) e s.1 s.2 in
        subst (StartCause input) u.2 (none, u.1)
  ],
)

by_key : (input : Input) (e : ClientError) (key : List ℕ) → refused_config input.config ≡ Some key
    → IsInvalidConfig key e → StartCause input e
by_key input e key is (inl named) = subst (StartCause input) (sym named) is
by_key input e key is (inr lack) = subst (StartCause input) (sym lack) tt

pub demanded : (input : Input) (e : ClientError) → ChecksDemand (refused_config input.config) (Err e)
    → StartCause input e
demanded input e c =
    let named = refused_key (refused_config input.config) e c in by_key input e named.0 named.1 named.2

-- ---- the end

pub ends : (input : Input) (limit : ℕ) (d : Dialogue) (given put : List ℕ) (e : ClientError) → Awaits d
    → Stands input limit d given put → Unless e (e ≡ notes_end d.notes) → Unless e (EndsAs input given put e)
ends input limit d given put e awaits h is ne =
    let g = stands_in input limit d given put state.Going awaits.0 h in
    subst (EndsAs input given put) (sym (is ne ∙ ap notes_end g.2)) (ends_as input given put d.inbox g.0 g.1)
