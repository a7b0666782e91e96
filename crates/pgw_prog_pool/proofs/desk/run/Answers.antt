use Rattle.pgw_prog_pool.proofs.CallLaws.{told_answer, told_error}
use Rattle.pgw_prog_pool.proofs.desk.run.Goals as goal

pub returns-in-Ok : goal.returns-in-Ok
returns-in-Ok c =
    told_answer c.tell_answer.result c.args.request.now c.in-Ok.answer c.args.seat.now.lease c.run.new.self
    c.args.seat.now.answers _ _ _ c.in-Ok.ensures.number c.in-Ok.ensures.broken c.in-Ok.ensures.asks
    (c.in-Ok.ensures.foretold tt, c.in-Ok.ensures.within) c.saturating_add-seat.ensures
    c.tell_answer.ensures

pub returns-in-Err : goal.returns-in-Err
returns-in-Err c =
    told_error c.tell_error.result c.args.request.now c.in-Err.error c.args.seat.now.lease c.run.new.self
    c.args.seat.now.answers _ _ c.in-Err.ensures.number c.in-Err.ensures.broken c.in-Err.ensures.asks
    (c.in-Err.ensures.foretold tt, c.in-Err.ensures.within) c.tell_error.ensures.memory
    c.tell_error.ensures.line
