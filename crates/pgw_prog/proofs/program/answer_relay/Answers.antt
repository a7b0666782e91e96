use Rattle.pgw_prog_script.specs.RelayScript.{relay_form}
use Rattle.pgw_prog.specs.Relay.{PrintsRelay}
use Rattle.pgw_prog.proofs.KindLaws.{answers_ok, answers_fault}
use Rattle.pgw_prog.proofs.program.answer_relay.Goals as goal

pub returns-in-Ok : goal.returns-in-Ok
returns-in-Ok c =
    answers_ok relay_form PrintsRelay c.args.text.items c.in-Ok.script c.hold_relay.result
    (rw c.deref.ensures.value at c.in-Ok.ensures.exact) c.hold_relay.ensures

pub returns-in-Err-Line : goal.returns-in-Err-Line
returns-in-Err-Line c =
    answers_fault relay_form PrintsRelay c.args.text.items c.in-Err-Line.number c.says_line.result
    (rw c.deref.ensures.value at (rw c.in-Err-Line.field-0-is at c.in-Err-Line.ensures.exact))
    c.says_line.ensures
