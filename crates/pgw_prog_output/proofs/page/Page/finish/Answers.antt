use Rattle.std.proofs.Common.{refl}
use Rattle.pgw_prog_output.specs.Pages.{sheet}
use Rattle.pgw_prog_output.proofs.PageLaws.{on_err, unwritten, shut_part}
use Rattle.pgw_prog_output.proofs.page.Page.finish.Goals as goal

pub returns-in_err-self-clause-front : goal.returns-in_err-self-clause-front
returns-in_err-self-clause-front g c = on_err _ _ (unwritten _ (sheet (g.O.Sink.tape c.args.output.now).wrote
    c.args.self.now))

pub returns-in_err-write_whole-clause-front : goal.returns-in_err-write_whole-clause-front
returns-in_err-write_whole-clause-front g c =
    let shut = rw c.replace-answer.ensures.value at c.in_ok-self.ensures in
    on_err _ _ (shut_part (sheet (g.O.Sink.tape c.args.output.now).wrote c.args.self.now) c.shut.new.out.items
    c.in_ok-self.field-0 (g.O.Sink.tape c.args.output.now) (g.O.Sink.tape c.write_whole.new.output) shut refl
    (rw c.deref.ensures.value at c.in_err-write_whole.ensures.failed))
