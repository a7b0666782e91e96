use Rattle.std.proofs.Common.{refl, ap, inl, inr, [], ◌≡◌}
use Rattle.std.proofs.lemmas.Result.{err_from_is_err_and}
use Rattle.pgw_login.proofs.ActLaws.{did_then, did_halt, did_quiet, did_set, did_mark, did_settle, did_introduce, did_saved, did_not_saved}
use Rattle.pgw_login.proofs.noop.answer.Goals as goal

pub returns-in-Password-clause-answered : goal.returns-in-Password-clause-answered
returns-in-Password-clause-answered g c =
    rw c.in-Password.is (did_quiet (refl, refl, refl))
