use Rattle.pgw_client_calls.proofs.ClosingLaws.{left_told, left_cut}
use Rattle.pgw_client_calls.proofs.closing.take_leave.Goals as goal

pub returns-in-Ok : goal.returns-in-Ok
returns-in-Ok g c = left_told c.args.broken _ _ _ _ c.if-broken.false c.in-Ok.ensures.sent c.in-Ok.ensures.clean

pub returns-in-Err : goal.returns-in-Err
returns-in-Err g c =
    left_cut c.args.broken _ _ _ _ c.if-broken.false c.in-Err.ensures.failed c.in-Err.ensures.cause.failed
