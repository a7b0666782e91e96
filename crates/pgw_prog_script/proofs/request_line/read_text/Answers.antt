use Rattle.std.proofs.Common.{◌∙◌}
use Rattle.pgw_prog_script.proofs.LineLaws.{text_is, text_none}
use Rattle.pgw_prog_script.proofs.request_line.read_text.Goals as goal

pub returns-in_ok-from_str-in-Ok : goal.returns-in_ok-from_str-in-Ok
returns-in_ok-from_str-in-Ok c =
    text_is c.args.value.now c.in_ok-from_str-in-Ok.field-0 (c.in_ok-from_str-in-Ok.ensures
    ∙ c.in-Ok.ensures.cases.0) c.in-Ok.ensures.cases.1

pub returns-in-Err : goal.returns-in-Err
returns-in-Err c = text_none c.args.value.now c.in-Err.ensures.cases.0
