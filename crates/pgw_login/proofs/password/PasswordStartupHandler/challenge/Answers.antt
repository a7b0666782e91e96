use Rattle.std.proofs.Common.{refl, Ok, Err}
use Rattle.std.proofs.lemmas.Result.{err_from_is_err_and}
use Rattle.pgw_login.proofs.ActLaws.{did_then, did_quiet, did_mark}
use Rattle.pgw_login.specs.Password.{with_kept}
use Rattle.pgw_login.proofs.Challenging.{did_challenge}
use Rattle.pgw_login.proofs.password.PasswordStartupHandler.challenge.Goals as goal

pub returns-in_err-challenge-clause-challenged : goal.returns-in_err-challenge-clause-challenged
returns-in_err-challenge-clause-challenged g c =
    let p = err_from_is_err_and c.from_residual.result c.from_residual.ensures.1 in
    rw (p.1, p.2) (did_challenge (g.V.PasswordMethod.opens c.args.self.now.method) (Err c.in_err-challenge.field-0.0)
    (rw c.from_client_info-login.ensures at c.in_err-challenge.ensures) (did_quiet (refl, refl, refl)))

pub returns-clause-challenged : goal.returns-clause-challenged
returns-clause-challenged g c =
    did_challenge (g.V.PasswordMethod.opens c.args.self.now.method) (Ok c.in_ok-challenge.challenge)
    (rw c.from_client_info-login.ensures at c.in_ok-challenge.ensures)
    (did_then (did_mark (with_kept c.in_ok-challenge.challenge.kept) _ _ c.keep.ensures) (c.send.ensures.sent _ _))
