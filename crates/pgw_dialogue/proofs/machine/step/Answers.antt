use Rattle.std.proofs.Common.{sym, subst}
use Rattle.pgw_session.specs.Machine.{moves_by}
use Rattle.pgw_session.specs.Notes.{notes_book}
use Rattle.pgw_session.specs.Table.{next_after}
use Rattle.pgw_dialogue.specs.Input.{input_of}
use Rattle.pgw_dialogue.specs.Machine.{AnswersMove}
use Rattle.pgw_dialogue.proofs.TableLaws.{next_good}
use Rattle.pgw_dialogue.proofs.machine.step.Goals as goal

pub follow-requires-clause-good : goal.follow-requires-clause-good
follow-requires-clause-good c =
    next_good (input_of c.args.input.now) c.args.notes.now.stage c.args.message c.in-Ok.next c.in-Ok.ensures

pub returns-in-Ok-clause-moved : goal.returns-in-Ok-clause-moved
returns-in-Ok-clause-moved c =
    subst (λ n. AnswersMove (moves_by notes_book (input_of c.args.input.now) c.args.notes.now c.args.message n)
    c.follow.new.notes c.args.out.now.items c.follow.new.out.items c.follow.result) c.in-Ok.ensures
    c.follow.ensures.moved

pub returns-in-Answering-clause-moved : goal.returns-in-Answering-clause-moved
returns-in-Answering-clause-moved c =
    let input = input_of c.args.input.now in
    subst (λ s. AnswersMove
    (moves_by notes_book input c.args.notes.now c.args.message (next_after input s c.args.message))
    c.answer.new.notes c.args.out.now.items c.answer.new.out.items c.answer.result)
    (sym c.in-Answering.is) c.answer.ensures.moved
