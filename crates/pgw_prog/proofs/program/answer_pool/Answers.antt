use Rattle.pgw_prog_script.specs.PoolScript.{pool_form}
use Rattle.pgw_prog.specs.Pool.{PrintsPool}
use Rattle.pgw_prog.proofs.KindLaws.{answers_ok, answers_fault}
use Rattle.pgw_prog.proofs.program.answer_pool.Goals as goal

pub returns-in-Ok : goal.returns-in-Ok
returns-in-Ok c =
    answers_ok pool_form PrintsPool c.args.text.items c.in-Ok.script c.hold_pool.result
    (rw c.deref.ensures.value at c.in-Ok.ensures.exact) c.hold_pool.ensures

pub returns-in-Err-Line : goal.returns-in-Err-Line
returns-in-Err-Line c =
    answers_fault pool_form PrintsPool c.args.text.items c.in-Err-Line.number c.says_line.result
    (rw c.deref.ensures.value at (rw c.in-Err-Line.field-0-is at c.in-Err-Line.ensures.exact))
    c.says_line.ensures
