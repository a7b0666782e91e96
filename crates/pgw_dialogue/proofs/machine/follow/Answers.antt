use Rattle.std.proofs.Common.{sym, subst}
use Rattle.pgw_session.specs.Machine.{moves_by}
use Rattle.pgw_session.specs.Notes.{notes_book}
use Rattle.pgw_dialogue.specs.Input.{input_of}
use Rattle.pgw_dialogue.specs.Machine.{AnswersMove}
use Rattle.pgw_dialogue.proofs.MachineLaws.{wrong_moved, refuses_moved}
use Rattle.pgw_dialogue.proofs.machine.follow.Goals as goal

pub returns-in-Goes-clause-moved : goal.returns-in-Goes-clause-moved
returns-in-Goes-clause-moved c =
    subst (λ n. AnswersMove (moves_by notes_book (input_of c.args.input.now) c.args.notes.now c.args.message n)
    c.go_on.new.notes c.args.out.now.items c.go_on.new.out.items c.go_on.result) (sym c.in-Goes.is)
    c.go_on.ensures.moved

pub returns-in-Closes-clause-moved : goal.returns-in-Closes-clause-moved
returns-in-Closes-clause-moved c =
    subst (λ n. AnswersMove (moves_by notes_book (input_of c.args.input.now) c.args.notes.now c.args.message n)
    c.close_and_open.new.notes c.args.out.now.items c.close_and_open.new.out.items c.close_and_open.result)
    (sym c.in-Closes.is) c.close_and_open.ensures.moved

pub returns-in-Wrong-clause-moved : goal.returns-in-Wrong-clause-moved
returns-in-Wrong-clause-moved c =
    wrong_moved (input_of c.args.input.now) c.args.notes.now c.args.notes.now c.args.message c.args.next
    c.args.out.now.items c.unexpected.result c.in-Wrong.is c.unexpected.ensures

pub returns-in-Refuses-clause-moved : goal.returns-in-Refuses-clause-moved
returns-in-Refuses-clause-moved c =
    refuses_moved (input_of c.args.input.now) c.args.notes.now c.args.notes.now c.args.message c.args.next
    c.args.out.now.items c.in-Refuses.error c.in-Refuses.is
