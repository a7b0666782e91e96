-- From what a dialogue notes to the conversation.
use Rattle.std.proofs.Common.{◌≡◌, ℕ, List, [], ◌++◌, refl, ◌∙◌, ap, sym, subst, append_assoc}
use Rattle.std.proofs.lemmas.List.{append-nil}
use Rattle.pgw_machine.specs.Course.{Course, Waits, Over, run, sent_of, map_course}
use Rattle.pgw_machine.proofs.CourseLaws.{run_append, run_more, run_over, sent_grows}
use Rattle.pgw_session.specs.declared.notes.Notes.{Notes}
use Rattle.pgw_session.specs.declared.types.SessionReport.{SessionReport}
use Rattle.pgw_session.specs.Input.{Input}
use Rattle.pgw_session.specs.Events.{Event, all_events}
use Rattle.pgw_session.specs.Standings.{standing_of}
use Rattle.pgw_session.specs.Transcript.{report_of}
use Rattle.pgw_session.specs.Machine.{End, Complete, map_end, rules_by, beginning_by}
use Rattle.pgw_session.specs.Talk.{Talk, Ending, beginning, conversation, heard_of, talk_rules}
use Rattle.pgw_session.specs.Notes.{notes_book, first_notes, noted_of, view}
use Rattle.pgw_session.proofs.Events.{clean_heard}
use Rattle.pgw_session.proofs.NotesLaws.{notes_tell}
use Rattle.pgw_session.proofs.ReadingLaws.{reads_more, steady_by}
use Rattle.pgw_session.proofs.Sound.{SoundAt, Cause, conversation_sound}
use Rattle.pgw_dialogue.specs.Machine.{NotesCourse, IsWholeEnd, report_at, runs}
use Rattle.pgw_machine.specs.Course.{Begins}

-- the conversation as it is noted
abbrev pub noted : Input → Course Talk Ending → NotesCourse
noted input c = map_course (view input) (map_end (view input)) c

-- ---- there

-- before the first byte
pub start_is : (input : Input)
    → beginning_by notes_book input (first_notes input) ≡ noted input (conversation input [])
unfolding noted_of run
start_is input = notes_tell input []

-- where the conversation waits, more bytes lead on as they do behind those that it waits with
pub carried : (input : Input) (given put inbox bytes : List ℕ) (t : Talk)
    → conversation input given ≡ Waits t put inbox
    → runs input (view input t) put (inbox ++ bytes) ≡ noted input (conversation input (given ++ bytes))
unfolding noted_of
carried input given put inbox bytes t is =
    let rules = rules_by notes_book input in
    let start = beginning_by notes_book input (first_notes input) in
    let more = (subst (SoundAt input given) is (conversation_sound input given)).3 in
    let here : run rules (Waits (view input t) put []) inbox ≡ Waits (view input t) put inbox =
    run_more rules (steady_by notes_book input) (view input t) put inbox
    (reads_more (view input t).standing.version inbox more) in
    let there : run rules start given ≡ Waits (view input t) put inbox =
    notes_tell input given ∙ ap (noted input) is in
    run_append rules (Waits (view input t) put []) inbox bytes
    ∙ ap (λ c. run rules c bytes) (here ∙ sym there)
    ∙ sym (run_append rules start given bytes)
    ∙ notes_tell input (given ++ bytes)

-- ---- and back

pub waits_in : (input : Input) (c : Course Talk Ending) (notes : Notes) (put inbox : List ℕ)
    → noted input c ≡ Waits notes put inbox → (t : Talk) × (c ≡ Waits t put inbox) × (notes ≡ view input t)
waits_in input (Waits t s p) notes put inbox is = (t, cc, cc)
waits_in input (Over e s) notes put inbox is = cc

pub over_in : (input : Input) (c : Course Talk Ending) (end : End Notes) (put : List ℕ)
    → noted input c ≡ Over end put → (e : Ending) × (c ≡ Over e put) × (map_end (view input) e ≡ end)
over_in input (Waits t s p) end put is = cc
over_in input (Over e s) end put is = (e, ap (Over e) (cc), cc)

sent_in : (input : Input) (c : Course Talk Ending) → sent_of (noted input c) ≡ sent_of c
sent_in input (Waits t s p) = refl
sent_in input (Over e s) = refl

pub begins_in : (input : Input) (c : Course Talk Ending) (put : List ℕ) → Begins (noted input c) put
    → Begins c put
begins_in input c put b = (b.0, sym (sent_in input c) ∙ b.1)

-- ---- the report

whole_report : (input : Input) (t : Talk) → t.open_events ≡ [] → t.passed ≡ []
    → report_at (view input t) ≡ report_of input t.closed
unfolding report_of
whole_report input t none clean =
    let same : heard_of t ≡ all_events t.closed =
    sym (clean_heard t clean) ∙ ap (λ (l : List Event). all_events t.closed ++ l) none
    ∙ append-nil (all_events t.closed) in
    let r = ap (standing_of input.config) same in
    cc

-- where the transcript is whole, what is noted is its report
pub whole_in : (input : Input) (taken : List ℕ) (end : End Notes) (put : List ℕ) (report : SessionReport)
    → noted input (conversation input taken) ≡ Over end put → IsWholeEnd end report
    → (t : Talk) × (conversation input taken ≡ Over (record { notes = t; outcome = Complete }) put)
    × (report ≡ report_of input t.closed)
whole_in input taken end put report is whole =
    let o = over_in input (conversation input taken) end put is in
    let outcome : (o.0).outcome ≡ Complete = ap (λ (s : End Notes). s.outcome) o.2 ∙ whole.outcome in
    let final = subst (SoundAt input taken) o.1 (conversation_sound input taken) in
    let cause : Cause input (o.0).notes final.rest Complete =
    subst (Cause input (o.0).notes final.rest) outcome final.cause in (
      (o.0).notes,
      o.1 ∙ ap (λ x. Over (record { notes = (o.0).notes; outcome = x }) put) outcome,
      sym whole.reported ∙ sym (ap (λ (s : End Notes). report_at s.notes) o.2)
          ∙ whole_report input (o.0).notes cause.1 cause.2,
    )

-- ---- more bytes

-- where it has ended it stays
pub over_on : (input : Input) (taken more : List ℕ) (e : Ending) (put : List ℕ)
    → conversation input taken ≡ Over e put → conversation input (taken ++ more) ≡ Over e put
unfolding conversation
over_on input taken more e put is =
    run_append (talk_rules input) (beginning input) taken more ∙ ap (λ c. run (talk_rules input) c more) is
    ∙ run_over (talk_rules input) e put more

-- what is sent in it only grows
pub begins_on : (input : Input) (taken more put : List ℕ) → Begins (conversation input taken) put
    → Begins (conversation input (taken ++ more)) put
unfolding conversation
begins_on input taken more put b =
    let rules = talk_rules input in
    let g = sent_grows rules (run rules (beginning input) taken) more in (
      b.0 ++ g.0,
      ap sent_of (run_append rules (beginning input) taken more) ∙ g.1
          ∙ ap (λ (l : List ℕ). l ++ g.0) b.1 ∙ append_assoc put b.0 g.0,
    )
