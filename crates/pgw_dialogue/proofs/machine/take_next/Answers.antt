use Rattle.std.proofs.Common.{ℕ, List, take, arith, refl, ap, sym, ◌∙◌, ◌++◌, length, length-drop, length-take-le, take-append-drop, Some}
use Rattle.std.proofs.lemmas.List.{drop_all}
use Rattle.pgw_backend.proofs.FrontLaws.{front_take, front_whole}
use Rattle.pgw_machine.proofs.CourseLaws.{run_bad, run_ends, run_goes}
use Rattle.pgw_session.specs.Machine.{rules_by, Unread}
use Rattle.pgw_session.specs.Notes.{notes_book}
use Rattle.pgw_session.proofs.ReadingLaws.{reads_bad, reads_whole, steady_by}
use Rattle.pgw_dialogue.specs.Input.{input_of}
use Rattle.pgw_dialogue.specs.Machine.{runs, whole_end}
use Rattle.pgw_dialogue.proofs.RowLaws.{run_nothing}
use Rattle.pgw_dialogue.proofs.machine.take_next.Goals as goal

pub returns-in-Err-clause-step : goal.returns-in-Err-clause-step
returns-in-Err-clause-step c =
    let input = input_of c.args.input.now in
    let notes = c.args.notes.now in
    let buffer = c.args.buffer.now in (
      refl,
      λ ne.
          let d = c.in-Err.ensures.decoded.1 ne in (
            record { notes = notes; outcome = Unread d.0 },
            ap Some (sym d.2),
            λ sent. run_bad (rules_by notes_book input) (steady_by notes_book input) notes sent buffer d.0
                (reads_bad notes.standing.version buffer d.0 d.1),
          ),
    )

pub returns-in-Ok-None-clause-step : goal.returns-in-Ok-None-clause-step
returns-in-Ok-None-clause-step c =
    let w = rw c.in-Ok-None.field-0-is at c.in-Ok-None.ensures.decoded in
    (refl, refl, w.0, w.1)

pub returns-in-Ok-true-clause-step : goal.returns-in-Ok-true-clause-step
returns-in-Ok-true-clause-step c =
    let w = rw c.in-Ok-Some.field-0-is at c.in-Ok-Some.ensures.decoded in
    let t = rw c.in-Ok-true.field-0-test at c.in-Ok-true.ensures.moved in
    let input = input_of c.args.input.now in
    let notes = c.args.notes.now in
    let buffer = c.args.buffer.now in
    let m = c.in-Ok-Some.message in
    let end = whole_end c.take.new.notes in (
      end,
      record { outcome = refl; reported = refl },
      t.1,
      λ sent. run_ends (rules_by notes_book input) (steady_by notes_book input) notes sent buffer m w.0 end
          (reads_whole notes.standing.version buffer m w.0 w.1) t.0,
    )

pub returns-in-Ok-true-clause-front : goal.returns-in-Ok-true-clause-front
returns-in-Ok-true-clause-front c =
    let w = rw c.in-Ok-Some.field-0-is at c.in-Ok-Some.ensures.decoded in
    let t = rw c.in-Ok-true.field-0-test at c.in-Ok-true.ensures.moved in
    (c.in-Ok-Some.message, w.0, w.1, w.2, t.0)

pub returns-in-Ok-false-clause-shorter : goal.returns-in-Ok-false-clause-shorter
returns-in-Ok-false-clause-shorter c =
    let w = rw c.in-Ok-Some.field-0-is at c.in-Ok-Some.ensures.decoded in
    let buffer = c.args.buffer.now in
    let f = front_whole c.args.notes.now.standing.version buffer c.in-Ok-Some.message w.0 w.1 in
    omega (arith, f.0, f.1, ap length w.2, length-drop w.0 buffer)

pub returns-in-Ok-false-clause-step : goal.returns-in-Ok-false-clause-step
returns-in-Ok-false-clause-step c =
    let w = rw c.in-Ok-Some.field-0-is at c.in-Ok-Some.ensures.decoded in
    let t = rw c.in-Ok-false.field-0-test at c.in-Ok-false.ensures.moved in
    let input = input_of c.args.input.now in
    let notes = c.args.notes.now in
    let buffer = c.args.buffer.now in
    let m = c.in-Ok-Some.message in (
      t.0,
      t.2,
      λ sent.
          run_goes (rules_by notes_book input) (steady_by notes_book input) notes sent buffer m w.0 _ t.0
          (reads_whole notes.standing.version buffer m w.0 w.1) t.1
          ∙ ap (runs input c.take.new.notes (sent ++ t.0)) (sym w.2),
    )

pub returns-in-Ok-false-clause-front : goal.returns-in-Ok-false-clause-front
returns-in-Ok-false-clause-front c =
    let w = rw c.in-Ok-Some.field-0-is at c.in-Ok-Some.ensures.decoded in
    let t = rw c.in-Ok-false.field-0-test at c.in-Ok-false.ensures.moved in
    let input = input_of c.args.input.now in
    let notes = c.args.notes.now in
    let v = notes.standing.version in
    let buffer = c.args.buffer.now in
    let m = c.in-Ok-Some.message in
    let taken = take w.0 buffer in
    let f = front_whole v buffer m w.0 w.1 in (
      taken,
      t.0,
      sym (take-append-drop w.0 buffer) ∙ ap (λ (l : List ℕ). taken ++ l) (sym w.2),
      t.2,
      λ sent.
          run_goes (rules_by notes_book input) (steady_by notes_book input) notes sent taken m w.0 _ t.0
          (reads_whole v taken m w.0 (front_take v buffer m w.0 w.1)) t.1
          ∙ ap (runs input c.take.new.notes (sent ++ t.0))
          (drop_all w.0 taken (omega (arith, f.1, length-take-le w.0 buffer f.1)))
          ∙ run_nothing input c.take.new.notes (sent ++ t.0),
    )

pub returns-in-Err-take-clause-step : goal.returns-in-Err-take-clause-step
returns-in-Err-take-clause-step c =
    let w = rw c.in-Ok-Some.field-0-is at c.in-Ok-Some.ensures.decoded in
    let t = c.in-Err-take.ensures.moved in
    let input = input_of c.args.input.now in
    let notes = c.args.notes.now in
    let buffer = c.args.buffer.now in
    let m = c.in-Ok-Some.message in (
      t.0,
      λ ne.
          let s = t.1 ne in (
            s.0,
            s.2,
            λ sent. run_ends (rules_by notes_book input) (steady_by notes_book input) notes sent buffer m
                w.0 s.0 (reads_whole notes.standing.version buffer m w.0 w.1) s.1,
          ),
    )
