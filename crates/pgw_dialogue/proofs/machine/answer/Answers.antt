use Rattle.std.proofs.Common.{sym, subst, refl, ◌∙◌}
use Rattle.pgw_session.specs.declared.stage.Stage.TheVariants.{Answering}
use Rattle.pgw_session.specs.Machine.{moves_by}
use Rattle.pgw_session.specs.Notes.{notes_book}
use Rattle.pgw_session.specs.Table.{by_role}
use Rattle.pgw_dialogue.specs.Input.{input_of}
use Rattle.pgw_dialogue.specs.Machine.{IsGood, AnswersMove}
use Rattle.pgw_dialogue.proofs.TableLaws.{role_good}
use Rattle.pgw_dialogue.proofs.machine.answer.Goals as goal

pub returns-in-Taken-clause-moved : goal.returns-in-Taken-clause-moved
returns-in-Taken-clause-moved c =
    subst (λ r. AnswersMove
    (moves_by notes_book (input_of c.args.input.now) c.args.notes.now c.args.message (by_role c.args.kind r))
    c.go_on.new.notes c.args.out.now.items c.go_on.new.out.items c.go_on.result)
    (sym c.in-Taken.is ∙ c.role.ensures) c.go_on.ensures.moved

pub returns-in-Closing-clause-moved : goal.returns-in-Closing-clause-moved
returns-in-Closing-clause-moved c =
    subst (λ r. AnswersMove
    (moves_by notes_book (input_of c.args.input.now) c.args.notes.now c.args.message (by_role c.args.kind r))
    c.close_and_open.new.notes c.args.out.now.items c.close_and_open.new.out.items
    c.close_and_open.result)
    (sym c.in-Closing.is ∙ c.role.ensures) c.close_and_open.ensures.moved
