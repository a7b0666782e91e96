-- Taking the messages at the front: how it goes on, and how it ends.
use Rattle.std.specs.Prelude.{slice_range}
use Rattle.std.proofs.Common.{◌≡◌, ◌≤◌, ◌-◌, ℕ, List, [], ◌++◌, length, take, drop, Bool, true, false, Result, Ok, Err, arith, refl, ◌∙◌, ap, sym, subst, append_assoc, take-add, take-append-drop}
use Rattle.std.proofs.lemmas.List.{append-nil, take_all}
use Rattle.pgw_backend.specs.declared.client_error.PgWireClientError.{PgWireClientError as ClientError}
use Rattle.pgw_backend.specs.declared.client_error.PgWireClientError.TheVariants as client
use Rattle.pgw_machine.specs.Course.{Waits, WantsMore, run, sent_of}
use Rattle.pgw_machine.proofs.CourseLaws.{run_append, run_more, run_over, run_wants, sent_grows}
use Rattle.pgw_session.specs.declared.notes.Notes.{Notes}
use Rattle.pgw_session.specs.Input.{Input}
use Rattle.pgw_session.specs.Machine.{rules_by}
use Rattle.pgw_session.specs.Notes.{notes_book}
use Rattle.pgw_session.proofs.ReadingLaws.{reads_more, steady_by}
use Rattle.pgw_dialogue.specs.declared.machine.Progress.TheVariants as progress
use Rattle.pgw_dialogue.specs.Machine.{AdvancesRun, NotesCourse, runs}
use Rattle.pgw_dialogue.proofs.MachineLaws.{begins_at}
use Rattle.pgw_dialogue.specs.Steps.{DialogueCameTo, InboxGoesOn, TookInbox}

pub first : (input : Input) (notes : Notes) (inbox out : List ℕ)
    → InboxGoesOn input notes notes inbox inbox out out
first input notes inbox out =
    ([], sym (append-nil out), λ sent. ap (λ (w : List ℕ). runs input notes w inbox) (sym (append-nil sent)))

pub went : (input : Input) (old notes next : Notes) (old_inbox inbox rest old_out out new_out : List ℕ)
    → InboxGoesOn input old notes old_inbox inbox old_out out
    → AdvancesRun input notes next inbox rest out new_out (Ok progress.Went)
    → InboxGoesOn input old next old_inbox rest old_out new_out
went input old notes next old_inbox inbox rest old_out out new_out g a = (
  g.0 ++ a.0,
  a.1 ∙ ap (λ (l : List ℕ). l ++ a.0) g.1 ∙ append_assoc old_out g.0 a.0,
  λ sent. g.2 sent ∙ a.2 (sent ++ g.0) ∙ ap (λ (w : List ℕ). runs input next w rest) (append_assoc sent g.0 a.0),
)

pub waits : (input : Input) (old notes next : Notes) (old_inbox inbox rest old_out out new_out : List ℕ)
    → InboxGoesOn input old notes old_inbox inbox old_out out
    → AdvancesRun input notes next inbox rest out new_out (Ok progress.More)
    → TookInbox input old next old_inbox rest old_out new_out (Ok false)
waits input old notes next old_inbox inbox rest old_out out new_out g a = (
  g.0,
  a.1 ∙ g.1,
  λ sent.
      g.2 sent
      ∙ run_more (rules_by notes_book input) (steady_by notes_book input) notes (sent ++ g.0) inbox
      (reads_more notes.standing.version inbox a.3)
      ∙ ap (λ (n : Notes). Waits n (sent ++ g.0) inbox) (sym a.0)
      ∙ ap (λ (b : List ℕ). Waits next (sent ++ g.0) b) (sym a.2),
)

pub done : (input : Input) (old notes next : Notes) (old_inbox inbox rest old_out out new_out : List ℕ)
    → InboxGoesOn input old notes old_inbox inbox old_out out
    → AdvancesRun input notes next inbox rest out new_out (Ok progress.Done)
    → TookInbox input old next old_inbox rest old_out new_out (Ok true)
done input old notes next old_inbox inbox rest old_out out new_out g a =
    (g.0, a.2 ∙ g.1, λ sent. (a.0, g.2 sent ∙ a.3 (sent ++ g.0), a.1))

pub refused : (input : Input) (old notes next : Notes) (old_inbox inbox rest old_out out new_out : List ℕ)
    (e : ClientError)
    → InboxGoesOn input old notes old_inbox inbox old_out out
    → AdvancesRun input notes next inbox rest out new_out (Err e)
    → TookInbox input old next old_inbox rest old_out new_out (Err e)
refused input old notes next old_inbox inbox rest old_out out new_out e g a = (
  g.0,
  a.0 ∙ g.1,
  λ sent. record {
    begins = begins_at input notes (sent ++ g.0) inbox _ (g.2 sent);
    cause = λ ne. let s = a.1 ne in (s.0, g.2 sent ∙ s.2 (sent ++ g.0), s.1);
  },
)

-- the bytes could not be kept
pub unkept : (input : Input) (notes : Notes) (inbox rest out : List ℕ)
    → TookInbox input notes notes inbox rest out out (Err client.OutOfMemory)
unkept input notes inbox rest out =
    let g = first input notes inbox out in (
      g.0,
      g.1,
      λ sent. record
          { begins = begins_at input notes (sent ++ g.0) inbox _ (g.2 sent); cause = λ ne. absurd (ne refl) },
    )

-- ---- a piece behind others

-- bytes behind some are taken from where these lead
runs_behind : (input : Input) (notes : Notes) (sent bytes more : List ℕ)
    → runs input notes sent (bytes ++ more) ≡ run (rules_by notes_book input) (runs input notes sent bytes) more
runs_behind input notes sent bytes more = run_append (rules_by notes_book input) (Waits notes sent []) bytes more

-- where it waits, what is left at the front does the rest
resumes : (input : Input) (old notes : Notes) (sent put bytes pending : List ℕ)
    → runs input old sent bytes ≡ Waits notes put pending → runs input notes put pending ≡ Waits notes put pending
resumes input old notes sent put bytes pending is =
    let rules = rules_by notes_book input in
    let steady = steady_by notes_book input in
    let wants : WantsMore rules (Waits notes put pending) =
    subst (λ (c : NotesCourse). WantsMore rules c) is
    (run_wants rules steady (Waits old sent []) bytes ((steady old).none)) in
    run_more rules steady notes put pending wants

-- what a piece does behind others
behind : (input : Input) (old notes next : Notes) (before inbox rest piece old_out out new_out : List ℕ)
    (r : Result Bool ClientError)
    → InboxGoesOn input old notes before inbox old_out out
    → TookInbox input notes next (inbox ++ piece) rest out new_out r
    → TookInbox input old next (before ++ piece) rest old_out new_out r
behind input old notes next before inbox rest piece old_out out new_out r g t = (
  g.0 ++ t.0,
  t.1 ∙ ap (λ (l : List ℕ). l ++ t.0) g.1 ∙ append_assoc old_out g.0 t.0,
  λ sent.
      let course : runs input notes (sent ++ g.0) (inbox ++ piece) ≡ runs input old sent (before ++ piece) =
      runs_behind input notes (sent ++ g.0) inbox piece
      ∙ ap (λ (c : NotesCourse). run (rules_by notes_book input) c piece) (sym (g.2 sent))
      ∙ sym (runs_behind input old sent before piece) in
      subst (λ (c : NotesCourse). DialogueCameTo c next rest (sent ++ (g.0 ++ t.0)) r) course
      (subst (λ (w : List ℕ). DialogueCameTo (runs input notes (sent ++ g.0) (inbox ++ piece)) next rest w r)
      (append_assoc sent g.0 t.0) (t.2 (sent ++ g.0))),
)

-- what no more bytes change
settled : (input : Input) (old next : Notes) (bytes more rest old_out new_out : List ℕ)
    (r : Result Bool ClientError)
    → (r ≡ Ok false → ⊥) → TookInbox input old next bytes rest old_out new_out r
    → TookInbox input old next (bytes ++ more) rest old_out new_out r
settled input old next bytes more rest old_out new_out (Ok true) ne t = (
  t.0,
  t.1,
  λ sent. let c =
      t.2 sent in (
        c.0,
        runs_behind input old sent bytes more
            ∙ ap (λ (x : NotesCourse). run (rules_by notes_book input) x more) c.1
            ∙ run_over (rules_by notes_book input) c.0 (sent ++ t.0) more,
        c.2,
      ),
)
settled input old next bytes more rest old_out new_out (Ok false) ne t = absurd (ne refl)
settled input old next bytes more rest old_out new_out (Err e) ne t = (
  t.0,
  t.1,
  λ sent.
      let rules = rules_by notes_book input in
      let c = t.2 sent in
      let grows = sent_grows rules (runs input old sent bytes) more in
      record {
        begins = (
          (c.begins).0 ++ grows.0,
          ap (λ (x : NotesCourse). sent_of x) (runs_behind input old sent bytes more)
              ∙ grows.1 ∙ ap (λ (l : List ℕ). l ++ grows.0) (c.begins).1
              ∙ append_assoc (sent ++ t.0) (c.begins).0 grows.0,
        );
        cause =
            λ no. let s =
            c.cause no in (
              s.0,
              runs_behind input old sent bytes more
                  ∙ ap (λ (x : NotesCourse). run rules x more) s.1
                  ∙ run_over rules s.0 (sent ++ t.0) more,
              s.2,
            );
      },
)

-- ---- a piece in parts

-- a part of some bytes behind those before it
part_on : (before bytes : List ℕ) (at end : ℕ) → at ≤ end
    → (before ++ take at bytes) ++ slice_range bytes at end ≡ before ++ take end bytes
part_on before bytes at end le =
    append_assoc before (take at bytes) (slice_range bytes at end)
    ∙ ap (λ (l : List ℕ). before ++ l) (sym (take-add at (end - at) bytes)
    ∙ ap (λ (k : ℕ). take k bytes) (omega (arith, le)))

-- and all of them
all_on : (before bytes : List ℕ) (end : ℕ) → (before ++ take end bytes) ++ drop end bytes ≡ before ++ bytes
all_on before bytes end =
    append_assoc before (take end bytes) (drop end bytes)
    ∙ ap (λ (l : List ℕ). before ++ l) (take-append-drop end bytes)

pub none_fed : (input : Input) (notes : Notes) (inbox bytes out : List ℕ)
    → InboxGoesOn input notes notes (inbox ++ take 0 bytes) inbox out out
none_fed input notes inbox bytes out =
    subst (λ (b : List ℕ). InboxGoesOn input notes notes b inbox out out) (sym (append-nil inbox))
    (first input notes inbox out)

part_fed : (input : Input) (old notes next : Notes) (before inbox rest bytes old_out out new_out : List ℕ)
    (at end : ℕ) (r : Result Bool ClientError)
    → at ≤ end → InboxGoesOn input old notes (before ++ take at bytes) inbox old_out out
    → TookInbox input notes next (inbox ++ slice_range bytes at end) rest out new_out r
    → TookInbox input old next (before ++ take end bytes) rest old_out new_out r
part_fed input old notes next before inbox rest bytes old_out out new_out at end r le g t =
    subst (λ (b : List ℕ). TookInbox input old next b rest old_out new_out r) (part_on before bytes at end le)
    (behind input old notes next (before ++ take at bytes) inbox rest (slice_range bytes at end) old_out out
    new_out r g t)

-- a part that ends the session, or is refused
pub last_fed : (input : Input) (old notes next : Notes) (before inbox rest bytes old_out out new_out : List ℕ)
    (at end : ℕ) (r : Result Bool ClientError)
    → at ≤ end → (r ≡ Ok false → ⊥) → InboxGoesOn input old notes (before ++ take at bytes) inbox old_out out
    → TookInbox input notes next (inbox ++ slice_range bytes at end) rest out new_out r
    → TookInbox input old next (before ++ bytes) rest old_out new_out r
last_fed input old notes next before inbox rest bytes old_out out new_out at end r le ne g t =
    subst (λ (b : List ℕ). TookInbox input old next b rest old_out new_out r) (all_on before bytes end)
    (settled input old next (before ++ take end bytes) (drop end bytes) rest old_out new_out r ne
    (part_fed input old notes next before inbox rest bytes old_out out new_out at end r le g t))

-- the last part, behind which it waits
pub all_fed : (input : Input) (old notes next : Notes) (before inbox rest bytes old_out out new_out : List ℕ)
    (at end : ℕ)
    → at ≤ end → end ≡ length bytes → InboxGoesOn input old notes (before ++ take at bytes) inbox old_out out
    → TookInbox input notes next (inbox ++ slice_range bytes at end) rest out new_out (Ok false)
    → TookInbox input old next (before ++ bytes) rest old_out new_out (Ok false)
all_fed input old notes next before inbox rest bytes old_out out new_out at end le is g t =
    subst (λ (b : List ℕ). TookInbox input old next (before ++ b) rest old_out new_out (Ok false))
    (take_all end bytes (omega (arith, is)))
    (part_fed input old notes next before inbox rest bytes old_out out new_out at end (Ok false) le g t)

-- a part behind which it goes on
pub more_fed : (input : Input) (old notes next : Notes) (before inbox rest bytes old_out out new_out : List ℕ)
    (at end : ℕ)
    → at ≤ end → InboxGoesOn input old notes (before ++ take at bytes) inbox old_out out
    → TookInbox input notes next (inbox ++ slice_range bytes at end) rest out new_out (Ok false)
    → InboxGoesOn input old next (before ++ take end bytes) rest old_out new_out
more_fed input old notes next before inbox rest bytes old_out out new_out at end le g t =
    let p = part_fed input old notes next before inbox rest bytes old_out out new_out at end (Ok false) le g t in (
      p.0,
      p.1,
      λ sent. p.2 sent
          ∙ sym (resumes input old next sent (sent ++ p.0) (before ++ take end bytes) rest (p.2 sent)),
    )
