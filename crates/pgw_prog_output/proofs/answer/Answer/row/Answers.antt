use Rattle.pgw_prog_output.proofs.AnswerLaws.{row_printed}
use Rattle.pgw_prog_output.proofs.answer.Answer.row.Goals as goal

pub returns-in_ok-printer-in-Some : goal.returns-in_ok-printer-in-Some
returns-in_ok-printer-in-Some c =
    row_printed c.args.self c.in-Some.printer c.in_ok-printer-in-Some.printer c.args.row c.args.out.now.items
    c.row.new.out.items c.in-Some.is c.in_ok-printer-in-Some.ensures
