use Rattle.pgw_prog_script.proofs.LineLaws.{ok_is, number_from, number_utf8}
use Rattle.std.proofs.Common.{sym}
use Rattle.pgw_prog_script.proofs.number.read_number.Goals as goal

pub returns-in-Ok : goal.returns-in-Ok
returns-in-Ok c =
    number_from c.args.value.now c.parse.result c.ok.result
    (rw c.in-Ok.ensures.cases.0 at c.parse.ensures.value.0) (rw c.ok.ensures.value (ok_is c.parse.result))

pub returns-in-Err : goal.returns-in-Err
returns-in-Err c = sym (number_utf8 c.args.value.now c.in-Err.ensures.cases.0)
