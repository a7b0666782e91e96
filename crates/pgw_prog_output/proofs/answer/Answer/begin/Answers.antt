use Rattle.pgw_prog_output.proofs.AnswerLaws.{begun}
use Rattle.pgw_prog_output.proofs.answer.Answer.begin.Goals as goal

pub returns : goal.returns
returns c = rw c.len-count.ensures (begun c.args.self c.args.columns c.in_ok-printer.printer c.args.out.now.items
    c.begin.new.out.items c.requires c.in_ok-printer.ensures)
