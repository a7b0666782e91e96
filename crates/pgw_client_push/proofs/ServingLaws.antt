-- Taking the messages at the front: how it goes on, and how it stops.
use Rattle.std.proofs.Common.{◌≡◌, ℕ, List, [], ◌∷◌, ◌++◌, length, arith, true, false, Ok, Err, refl, ◌∙◌, ap, sym, append_assoc}
use Rattle.std.proofs.lemmas.List.{append-nil}
use Rattle.pgw_backend.specs.declared.client_error.PgWireClientError.{PgWireClientError as ClientError}
use Rattle.pgw_backend.proofs.FrontLaws.{front_nil}
use Rattle.pgw_machine.specs.Course.{Waits, run}
use Rattle.pgw_machine.proofs.CourseLaws.{run_append}
use Rattle.pgw_session.specs.declared.notes.Notes.{Notes}
use Rattle.pgw_session.specs.Input.{Input}
use Rattle.pgw_session.specs.Machine.{rules_by}
use Rattle.pgw_session.specs.Notes.{notes_book}
use Rattle.pgw_dialogue.specs.declared.machine.Progress.TheVariants as progress
use Rattle.pgw_dialogue.specs.Machine.{AdvancesRun, NotesCourse, CutsFront}
use Rattle.pgw_dialogue.proofs.RowLaws.{run_nothing}
use Rattle.pgw_client_push.specs.Serving.{InboxLeadsTo, Serves}

pub first : (input : Input) (notes : Notes) (inbox out : List ℕ)
    → InboxLeadsTo input notes notes inbox inbox out out
first input notes inbox out = record {
  taken = [];
  cut = refl;
  out = [];
  puts = sym (append-nil out);
  leads = λ sent. run_nothing input notes sent ∙ ap (λ (w : List ℕ). Waits notes w []) (sym (append-nil sent));
}

-- there is nothing to take
pub nothing : (input : Input) (notes : Notes) (inbox out : List ℕ) → length inbox ≡ 0
    → Serves input notes notes inbox inbox out out (Ok false)
nothing input notes [] out none = record {
  notes = notes;
  left = [];
  way = first input notes [] out;
  stops = (refl, refl, front_nil notes.standing.version);
}
nothing input notes (byte ∷ inbox) out none = absurd (omega (arith, none))

pub went : (input : Input) (old notes next : Notes) (old_inbox inbox rest old_out out new_out : List ℕ)
    → InboxLeadsTo input old notes old_inbox inbox old_out out
    → CutsFront input notes next inbox rest out new_out (Ok progress.Went)
    → InboxLeadsTo input old next old_inbox rest old_out new_out
went input old notes next old_inbox inbox rest old_out out new_out w t =
    let rules = rules_by notes_book input in
    record {
      taken = w.taken ++ t.0;
      cut = w.cut ∙ ap (λ (l : List ℕ). w.taken ++ l) t.2 ∙ sym (append_assoc w.taken t.0 rest);
      out = w.out ++ t.1;
      puts = t.3 ∙ ap (λ (l : List ℕ). l ++ t.1) w.puts ∙ append_assoc old_out w.out t.1;
      leads = λ sent.
          run_append rules (Waits old sent []) w.taken t.0
          ∙ ap (λ (c : NotesCourse). run rules c t.0) (w.leads sent)
          ∙ t.4 (sent ++ w.out)
          ∙ ap (λ (l : List ℕ). Waits next l []) (append_assoc sent w.out t.1);
    }

-- nothing more was put out
stays : (input : Input) (old notes : Notes) (old_inbox inbox old_out out new_out : List ℕ)
    → InboxLeadsTo input old notes old_inbox inbox old_out out → new_out ≡ out
    → InboxLeadsTo input old notes old_inbox inbox old_out new_out
stays input old notes old_inbox inbox old_out out new_out w same =
    record { taken = w.taken; cut = w.cut; out = w.out; puts = same ∙ w.puts; leads = w.leads }

pub waits : (input : Input) (old notes next : Notes) (old_inbox inbox rest old_out out new_out : List ℕ)
    → InboxLeadsTo input old notes old_inbox inbox old_out out
    → AdvancesRun input notes next inbox rest out new_out (Ok progress.More)
    → Serves input old next old_inbox rest old_out new_out (Ok false)
waits input old notes next old_inbox inbox rest old_out out new_out w a = record {
  notes = notes;
  left = inbox;
  way = stays input old notes old_inbox inbox old_out out new_out w a.1;
  stops = (a.0, a.2, a.3);
}

pub closed : (input : Input) (old notes next : Notes) (old_inbox inbox rest old_out out new_out : List ℕ)
    → InboxLeadsTo input old notes old_inbox inbox old_out out
    → AdvancesRun input notes next inbox rest out new_out (Ok progress.Done)
    → CutsFront input notes next inbox rest out new_out (Ok progress.Done)
    → Serves input old next old_inbox rest old_out new_out (Ok true)
closed input old notes next old_inbox inbox rest old_out out new_out w a t = record {
  notes = notes;
  left = inbox;
  way = stays input old notes old_inbox inbox old_out out new_out w a.2;
  stops = t;
}

pub refused : (input : Input) (old notes next : Notes) (old_inbox inbox rest old_out out new_out : List ℕ)
    (e : ClientError)
    → InboxLeadsTo input old notes old_inbox inbox old_out out
    → AdvancesRun input notes next inbox rest out new_out (Err e)
    → Serves input old next old_inbox rest old_out new_out (Err e)
refused input old notes next old_inbox inbox rest old_out out new_out e w a = record {
  notes = notes;
  left = inbox;
  way = stays input old notes old_inbox inbox old_out out new_out w a.0;
  stops = a.1;
}
