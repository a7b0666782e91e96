use Rattle.std.proofs.Common.{refl, ap, inl, inr, [], ◌≡◌}
use Rattle.std.proofs.lemmas.Result.{err_from_is_err_and}
use Rattle.pgw_login.proofs.ActLaws.{did_then, did_halt, did_quiet, did_set, did_mark, did_settle, did_introduce, did_saved, did_not_saved}
use Rattle.pgw_login.proofs.password.PasswordStartupHandler.answer.Goals as goal

pub returns-in-Other-clause-answered : goal.returns-in-Other-clause-answered
returns-in-Other-clause-answered g c =
    rw c.in-Other.is (did_quiet (refl, refl, refl))
