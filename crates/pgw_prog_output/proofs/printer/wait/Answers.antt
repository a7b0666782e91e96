use Rattle.std.proofs.Common.{arith}
use Rattle.pgw_prog_output.proofs.PrinterLaws.{enough_behind}
use Rattle.pgw_prog_output.proofs.printer.wait.Goals as goal

pub returns : goal.returns
returns c = enough_behind _ _ _ _ _ _ _ c.args.sample.waits c.in_ok-push.ensures.ok (omega
    (arith, c.len.ensures, c.if-len-lt-SAMPLE.false)) c.in_ok-laid.ensures.laid c.in_ok-laid.ensures.text
