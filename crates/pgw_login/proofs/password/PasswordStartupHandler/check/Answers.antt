use Rattle.std.proofs.Common.{refl, ap, inl, inr, [], ◌≡◌}
use Rattle.std.proofs.lemmas.Result.{err_from_is_err_and}
use Rattle.pgw_login.proofs.ActLaws.{did_then, did_halt, did_quiet, did_set, did_mark, did_settle, did_introduce, did_saved, did_not_saved}
use Rattle.pgw_login.proofs.password.PasswordStartupHandler.check.Goals as goal

pub returns-in_err-await_password-clause-checked : goal.returns-in_err-await_password-clause-checked
returns-in_err-await_password-clause-checked g c =
    let p = err_from_is_err_and c.from_residual.result c.from_residual.ensures.1 in
    rw (p.1, p.2) (did_halt (did_quiet (c.in_err-await_password.ensures _ _)))

pub returns-in_err-verify-clause-checked : goal.returns-in_err-verify-clause-checked
returns-in_err-verify-clause-checked g c =
    let p = err_from_is_err_and c.from_residual-in_err-verify.result c.from_residual-in_err-verify.ensures.1 in
    rw (p.1, p.2) (did_then (did_quiet (c.in_ok-await_password.ensures _ _))
    (did_halt (did_quiet (refl, refl, rw c.from_client_info.ensures at c.in_err-verify.ensures))))

pub returns-clause-checked : goal.returns-clause-checked
returns-clause-checked g c =
    did_then (did_quiet (c.in_ok-await_password.ensures _ _))
    (did_then (did_quiet (refl, refl, rw c.from_client_info.ensures at c.in_ok-verify.ensures))
    c.finish.ensures.finished)
