use Rattle.std.proofs.Common.{arith}
use Rattle.pgw_prog_sessions.specs.Summary.{response_rows}
use Rattle.pgw_prog_sessions.proofs.SummaryLaws.{at_err, too_many_at}
use Rattle.pgw_prog_sessions.proofs.summary.Sum.add_responses.Goals as goal

pub returns-in_err-add_rows-clause-too_many : goal.returns-in_err-add_rows-clause-too_many
returns-in_err-add_rows-clause-too_many c =
    let l = c.loop-response in
    at_err _ (too_many_at response_rows c.args.responses.now l.response-index c.response-item.result
    c.args.self.now l.self (omega (arith, c.loop-response-test.true)) c.response-item.is l.invariant
    (rw c.in-Query.is c.in_err-add_rows.ensures.too_many))
