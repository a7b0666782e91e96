use Rattle.pgw_prog_script.proofs.LineLaws.{text_is, text_none}
use Rattle.pgw_prog_script.proofs.request_line.as_text.Goals as goal

pub returns-in-Ok : goal.returns-in-Ok
returns-in-Ok c = text_is c.args.value.now c.in-Ok.text.now c.in-Ok.ensures.cases.0 c.in-Ok.ensures.cases.1

pub returns-in-Err : goal.returns-in-Err
returns-in-Err c = text_none c.args.value.now c.in-Err.ensures.cases.0
