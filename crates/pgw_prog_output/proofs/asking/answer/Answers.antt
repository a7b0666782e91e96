use Rattle.pgw_prog_output.proofs.AskingLaws.{answered, counted}
use Rattle.pgw_prog_output.proofs.asking.answer.Goals as goal

pub returns-clause-answered : goal.returns-clause-answered
returns-clause-answered g c =
    answered c.args.format _ _ _ _ _ _ _ c.hear_answer-halt.result c.close.result c.new-page.ensures.answer
    c.new-page.ensures.waits c.new-page.ensures.failed
    c.hear_answer-halt.ensures.over c.hear_answer-halt.ensures.hears c.close.ensures

pub returns-clause-counts : goal.returns-clause-counts
returns-clause-counts g c = counted c.hear_answer-halt.result _ _ _ _ _ c.close.result
    c.hear_answer-halt.ensures.counts c.close.ensures
