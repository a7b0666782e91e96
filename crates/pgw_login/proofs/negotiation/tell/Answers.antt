use Rattle.std.proofs.Common.{refl, ap, inl, inr, [], ◌≡◌}
use Rattle.std.proofs.lemmas.Result.{err_from_is_err_and}
use Rattle.pgw_login.proofs.ActLaws.{did_then, did_halt, did_quiet, did_set, did_mark, did_settle, did_introduce, did_saved, did_not_saved}
use Rattle.pgw_login.proofs.negotiation.tell.Goals as goal

pub returns-in-None-clause-told : goal.returns-in-None-clause-told
returns-in-None-clause-told g c =
    λ client login. rw c.in-None.is (did_quiet (refl, refl))
