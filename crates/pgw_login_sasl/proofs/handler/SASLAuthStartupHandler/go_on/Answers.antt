use Rattle.std.proofs.lemmas.Result.{err_from_is_err_and}
use Rattle.pgw_login.specs.Acts.{with_sasl}
use Rattle.pgw_login.proofs.ActLaws.{did_then, did_halt, did_mark}
use Rattle.pgw_login_sasl.proofs.handler.SASLAuthStartupHandler.go_on.Goals as goal

pub returns-in_err-tell-clause-done : goal.returns-in_err-tell-clause-done
returns-in_err-tell-clause-done g c =
    let p = err_from_is_err_and c.from_residual.result c.from_residual.ensures.1 in
    rw (p.1, p.2) (did_halt (c.in_err-tell.ensures.told _ _))

pub returns-clause-done : goal.returns-clause-done
returns-clause-done g c =
    did_then (c.in_ok-tell.ensures.told _ _)
    (did_then (did_mark (with_sasl c.args.next) _ _ c.set_sasl.ensures)
    (rw c.is_finished-is_finished.ensures at c.end.ensures.ended))
