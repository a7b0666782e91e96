use Rattle.std.proofs.Common.{inl}
use Rattle.pgw_prog_output.specs.Pages.{sheet}
use Rattle.pgw_prog_output.proofs.PageLaws.{on_err, unwritten}
use Rattle.pgw_prog_output.proofs.page.Page.hear.Goals as goal

pub returns-in_err-said-clause-front : goal.returns-in_err-said-clause-front
returns-in_err-said-clause-front g c = on_err _ _ (inl (unwritten _ (sheet (g.O.Sink.tape c.args.output.now).wrote
    c.args.self.now)))

pub returns-in_err-print-clause-front : goal.returns-in_err-print-clause-front
returns-in_err-print-clause-front g c =
    on_err _ _ (inl (unwritten _ (sheet (g.O.Sink.tape c.args.output.now).wrote
    c.args.self.now)))
