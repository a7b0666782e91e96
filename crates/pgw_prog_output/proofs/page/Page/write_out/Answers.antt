use Rattle.std.proofs.Common.{refl}
use Rattle.pgw_prog_output.specs.Pages.{sheet}
use Rattle.pgw_prog_output.proofs.PageLaws.{on_err, written_part}
use Rattle.pgw_prog_output.proofs.page.Page.write_out.Goals as goal

pub returns-in_err-write_whole-clause-front : goal.returns-in_err-write_whole-clause-front
returns-in_err-write_whole-clause-front g c =
    on_err _ _ (written_part (sheet (g.O.Sink.tape c.args.output.now).wrote c.args.self.now) (g.O.Sink.tape
    c.args.output.now) (g.O.Sink.tape c.write_whole.new.output) refl (rw c.deref.ensures.value at
    c.in_err-write_whole.ensures.failed))
