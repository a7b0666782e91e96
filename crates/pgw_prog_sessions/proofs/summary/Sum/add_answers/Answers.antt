use Rattle.std.proofs.Common.{sym, arith}
use Rattle.pgw_prog_sessions.specs.Summary.{answer_rows}
use Rattle.pgw_prog_sessions.proofs.SummaryLaws.{at_err, too_many_at}
use Rattle.pgw_prog_sessions.proofs.summary.Sum.add_answers.Goals as goal

pub returns-in_err-add_responses-clause-too_many : goal.returns-in_err-add_responses-clause-too_many
returns-in_err-add_responses-clause-too_many c =
    let l = c.loop-answer in
    at_err _ (too_many_at answer_rows c.args.answers.now l.answer-index c.answer-item.result c.args.self.now
    l.self (omega (arith, c.loop-answer-test.true)) c.answer-item.is l.invariant
    (rw (c.in-Responses.is, sym c.as_slice.ensures) c.in_err-add_responses.ensures.too_many))
