use Rattle.std.proofs.Common.{refl, ap, inl, inr, [], ◌≡◌}
use Rattle.std.proofs.lemmas.Result.{err_from_is_err_and}
use Rattle.pgw_login.proofs.ActLaws.{did_then, did_halt, did_quiet, did_set, did_mark, did_settle, did_introduce, did_saved, did_not_saved}
use Rattle.pgw_login.proofs.password.PasswordStartupHandler.open.Goals as goal

pub returns-in_err-open_login-clause-opened : goal.returns-in_err-open_login-clause-opened
returns-in_err-open_login-clause-opened g c =
    let p = err_from_is_err_and c.from_residual.result c.from_residual.ensures.1 in
    rw (p.1, p.2) (did_halt c.in_err-open_login.ensures.opened)

pub returns-clause-opened : goal.returns-clause-opened
returns-clause-opened g c =
    did_then c.in_ok-open_login.ensures.opened c.challenge.ensures.challenged
