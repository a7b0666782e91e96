use Rattle.std.proofs.Common.{[], refl}
use Rattle.pgw_prog_sessions.specs.Summary.{payloads, report_rows}
use Rattle.pgw_prog_sessions.proofs.SummaryLaws.{at_err, summary_is}
use Rattle.pgw_prog_sessions.proofs.summary.summary_of.Goals as goal

pub returns-clause-value : goal.returns-clause-value
returns-clause-value c =
    let report = c.args.report.now in
    let sum = rw c.as_slice.ensures at (c.in_ok-add_answers.ensures.adds [] (refl, c.new.ensures)) in
    summary_is c.add_answers.new.self.rows c.finalize.result report sum.0
    (c.finalize.ensures (payloads (report_rows report)) sum.1)

pub returns-in_err-add_answers-clause-too_many : goal.returns-in_err-add_answers-clause-too_many
returns-in_err-add_answers-clause-too_many c =
    let many = rw c.as_slice.ensures at c.in_err-add_answers.ensures.too_many in
    at_err _ (many [] (refl, c.new.ensures))
