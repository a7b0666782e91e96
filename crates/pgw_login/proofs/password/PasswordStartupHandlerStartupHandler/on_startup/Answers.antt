use Rattle.std.proofs.Common.{refl, ap, inl, inr, [], ◌≡◌}
use Rattle.std.proofs.lemmas.Result.{err_from_is_err_and}
use Rattle.pgw_login.proofs.ActLaws.{did_then, did_halt, did_quiet, did_set, did_mark, did_settle, did_introduce, did_saved, did_not_saved}
use Rattle.pgw_login.proofs.password.PasswordStartupHandlerStartupHandler.on_startup.Goals as goal

pub returns-clause-means : goal.returns-clause-means
returns-clause-means g c =
    rw c.settle.ensures.answer
    (did_settle c.answer-answer.result c.settle.ensures.settled
    (rw c.of.ensures at c.answer-answer.ensures.answered))
